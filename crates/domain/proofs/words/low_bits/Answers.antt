use Rattle.std.proofs.Common.{ℕ, ◌-◌, ◌^◌, ◌<◌, sym, ap, ◌∙◌, lt_of_lt_of_le, mod-eq_of_lt, arith, pow_mono}
use lib.Bits.{bit_and, and_mask}
use Rattle.std.proofs.lemmas.Nat.{one_shl}
use Rattle.domain.proofs.words.low_bits.Goals as goal

pub returns-then-count-ge64 : goal.returns-then-count-ge64
returns-then-count-ge64 c =
    let short : c.args.word < 2 ^ 64 = omega arith in
    sym (mod-eq_of_lt (lt_of_lt_of_le short (pow_mono c.if-count-ge64.true)))

pub returns-else-count-ge64 : goal.returns-else-count-ge64
returns-else-count-ge64 c =
    ap (λ (x : ℕ). bit_and c.args.word (x - 1)) (one_shl c.args.count 64 c.if-count-ge64.false) ∙ and_mask c.args.word c.args.count
