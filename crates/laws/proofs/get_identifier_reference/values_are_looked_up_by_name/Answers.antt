use Rattle.laws.proofs.GetIdentifierReference.{get_identifier_reference_law}
use Rattle.laws.proofs.get_identifier_reference.values_are_looked_up_by_name.Goals as goal

pub returns : goal.returns
returns c = get_identifier_reference_law
