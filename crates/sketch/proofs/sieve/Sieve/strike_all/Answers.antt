use Rattle.std.proofs.Common.{◌<◌, ◌≤◌, false, length, refl, sym, ap, ◌∙◌, subst, arith}
use Rattle.std.proofs.Math.Seq.{take-set-lt}
use Rattle.std.proofs.lemmas.List.Sums.{count_by-le-length}
use Rattle.sketch.specs.Sieve.{strikes, flagged}
use Rattle.sketch.specs.Sifted.{kinds_in, left_in}
use Rattle.sketch.proofs.Sifted.{long_left}
use Rattle.sketch.proofs.Strikes.{struck_fewer, struck_on, strikes_none}
use Rattle.sketch.proofs.sieve.Sieve.strike_all.Goals as goal

pub loop-i-init : goal.loop-i-init
loop-i-init c =
    let s = c.args.self.now in
    (refl, refl, (length s.rules.now, omega (arith, count_by-le-length (λ b. b) (left_in s), long_left s), refl))

pub loop-i-smaller : goal.loop-i-smaller
loop-i-smaller c =
    let s = c.loop-i.self in
    let h = c.in-Some.ensures in
    let e = take-set-lt (length s.rules.now) s.left c.in-Some.i false h.0 in
    subst (λ l. flagged l < flagged (left_in s)) (sym e) (struck_fewer (kinds_in s) s.rules.now (left_in s) c.in-Some.i (long_left s) h.0 h.1)

pub loop-i-preserved : goal.loop-i-preserved
loop-i-preserved c =
    let s = c.loop-i.self in
    let h = c.in-Some.ensures in
    let e = take-set-lt (length s.rules.now) s.left c.in-Some.i false h.0 in
    let on = c.loop-i.invariant.2 in
    let next = struck_on (kinds_in s) s.rules.now on.0 (left_in s) _ c.in-Some.i (long_left s) h.0 h.1 on.1 on.2 in (
      c.loop-i.invariant.0,
      c.loop-i.invariant.1,
      (
        next.0,
        subst (λ l. flagged l ≤ next.0) (sym e) next.1,
        ap (strikes (kinds_in s) s.rules.now next.0) e ∙ next.2,
      ),
    )

pub returns-clause-left : goal.returns-clause-left
returns-clause-left c =
    let s = c.loop-i.self in
    let on = c.loop-i.invariant.2 in
    sym (strikes_none (kinds_in s) s.rules.now on.0 (left_in s) (long_left s) (omega (arith, c.in_default.ensures))) ∙ on.2
