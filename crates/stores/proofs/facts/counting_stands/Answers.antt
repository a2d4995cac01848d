use Rattle.stores.proofs.CountedPairs.{none_counted, put_counted, drop_counted}
use Rattle.stores.proofs.facts.counting_stands.Goals as goal

pub returns : goal.returns
returns g c =
    let same = g.K.PartialEq.eq in
    let laws = g.met.K.Eq.laws in
    record { at_first = none_counted same; after_put = put_counted same laws; after_drop = drop_counted same laws }
