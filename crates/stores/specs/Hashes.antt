-- Hash numbers fit 32 bits.
use Rattle.std.specs.Prelude.{ℕ, ◌*◌, ◌/◌, ◌%◌, ◌^◌, ◌<◌}
use Rattle.std.proofs.Common.{arith}
use Rattle.std.proofs.lemmas.Nat.{xor_lt}
use Rattle.stores.specs.Keys.{scrambled, folded}

folded_small : (k x : ℕ) → x < 2 ^ 32 → x / 2 ^ k < 2 ^ 32 → folded k x < 2 ^ 32
folded_small k x l m = xor_lt 32 x (x / 2 ^ k) l m

pub scrambled_small : (x : ℕ) → scrambled x < 2 ^ 32
scrambled_small x = folded_small 15 (folded 16 x * 0xc2b2_ae35 % 2 ^ 32) (omega arith) (omega arith)
