-- A search reads the symbols and the bindings of the names, and nothing else.
use Rattle.std.proofs.Common.{◌≡◌, ℕ, cond, List, [], ◌∷◌, Option, refl, ap}
use Rattle.tables.specs.Contents.{Contents}
use Rattle.tables.specs.declared.id.ScopeId.{ScopeId}
use Rattle.tables.specs.declared.row.ScopeRow.{ScopeRow}
use Rattle.stores.specs.Pairs.{Pairs}
use Rattle.stores.specs.declared.key.ScopeAndName.{ScopeAndName}
use Rattle.model.specs.Basics.{maybe, the_symbol}
use Rattle.model.specs.Resolving.{ends_at, serving_in}
use Rattle.model.specs.View.{names_of}
use Rattle.lookup.specs.declared.sought.Sought.TheVariants.{Found, Ended, Passed}
use Rattle.lookup.specs.Seeking.{bound_names, is_last, seek}

pub seek_of_names : (c : Contents) (b h : Pairs ScopeAndName) (rows : List ScopeRow) (name flags : ℕ) (upto : Option ScopeId) (xs : List ℕ) → seek rows (bound_names c.symbols b) name flags upto xs ≡ seek rows (names_of c b h) name flags upto xs
seek_of_names c b h rows name flags upto [] = refl
seek_of_names c b h rows name flags upto (s ∷ ss) =
    ap (λ z. maybe (serving_in (names_of c b h) name flags s) (cond (ends_at rows name flags s) Ended (cond (is_last upto s) Passed z)) (λ n. Found (the_symbol n))) (seek_of_names c b h rows name flags upto ss)
