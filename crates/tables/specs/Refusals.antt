-- The number and the layer of each refusal.
use Rattle.std.specs.Prelude.{ℕ}
use Rattle.tables.specs.declared.refusal.Refusal.{Refusal}
use Rattle.tables.specs.declared.refusal.Refusal.TheVariants.{UnlistedBits, UnknownKind, ModifierNotOfKind, SpanReversed, NoSuchScope, ScopesFull, DeclarationsFull, ReferencesFull, AtRoot, StartPastPending, Absent, StoreFull}
use Rattle.tables.specs.declared.refusal.Layer.{Layer}
use Rattle.tables.specs.declared.refusal.Layer.TheVariants.{Builder, Table, Store}

abbrev pub number_of : Refusal → ℕ
number_of UnlistedBits = 1
number_of UnknownKind = 2
number_of ModifierNotOfKind = 3
number_of SpanReversed = 4
number_of NoSuchScope = 5
number_of ScopesFull = 6
number_of DeclarationsFull = 7
number_of ReferencesFull = 8
number_of AtRoot = 9
number_of StartPastPending = 10
number_of Absent = 11
number_of StoreFull = 12

abbrev pub layer_of : Refusal → Layer
layer_of UnlistedBits = Builder
layer_of UnknownKind = Builder
layer_of ModifierNotOfKind = Builder
layer_of SpanReversed = Builder
layer_of NoSuchScope = Table
layer_of ScopesFull = Table
layer_of DeclarationsFull = Table
layer_of ReferencesFull = Table
layer_of AtRoot = Builder
layer_of StartPastPending = Builder
layer_of Absent = Table
layer_of StoreFull = Store
