-- The definitions of the calls, for a proof that computes them.
use Rattle.model.specs.Calls.{refusal, granted, granted_answer, builder_refusal, builder_after, builder_answer}

unfoldable pub calls_opened : Unit {0}
unfolding refusal granted granted_answer builder_refusal builder_after builder_answer
calls_opened = tt
