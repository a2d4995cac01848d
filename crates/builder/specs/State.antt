-- The state of the reference machine that a builder stands for.
use Rattle.tables.specs.declared.id.Name.{Name}
use Rattle.stores.specs.declared.key.ScopeAndName.{ScopeAndName}
use Rattle.stores.specs.declared.store.PairSet.{Ghosts}
use Rattle.model.specs.State.{Machine}
use Rattle.model.specs.View.{machine_of}
use Rattle.builder.specs.declared.builder.SemanticBuilder.{SemanticBuilder}

abbrev pub view : {B H R : Type 0} {bs : Ghosts B ScopeAndName} {hs : Ghosts H ScopeAndName} {rs : Ghosts R Name} → SemanticBuilder B H R bs hs rs → Machine
view {bs} {hs} {rs} s = machine_of s.setting.bits s.current.0 s.names.scoping (bs.pairs s.names.bindings) (hs.pairs s.names.hoisting) (rs.pairs s.roots)
