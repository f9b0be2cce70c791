-- Each "surely" and each "may" is sound for the pairs that an entry accepts. Assumes nothing.
use Rattle.std.proofs.Common.{◌≡◌, ℕ, ◌<◌, ◌≤◌, true, false, not, ◌&&◌, refl, arith}
use Rattle.std.proofs.lemmas.Bool.{and_parts, ltb-true, eqb-true, true≢false, false≢true}
use Rattle.sketch.specs.Rule.{holds, follows, Fitting}
use Rattle.sketch.specs.Sieve.{surely_lowers, surely_raises, may_raise, may_lower}
use Rattle.sketch.specs.Laws.{EntriesSound}
use Rattle.sketch.specs.Entry.{positive, at_zero}
use Rattle.sketch.specs.Kind.{boolean}
use Rattle.sketch.specs.declared.feature.Kind.{Kind}
use Rattle.sketch.specs.declared.feature.Kind.TheVariants.{Boolean, TrueCount, FalseCount}
use Rattle.sketch.specs.declared.rule.Condition.{Condition}
use Rattle.sketch.specs.declared.rule.Condition.TheVariants.{Any, Positive, Zero}
use Rattle.sketch.specs.declared.rule.Effect.{Effect}
use Rattle.sketch.specs.declared.rule.Effect.TheVariants.{Same, Free, Up, Down}
use Rattle.sketch.specs.declared.rule.Entry.{Entry}

abbrev of : Condition → Effect → Entry
of c e = record { when = c; then = e }

falls : (e : Effect) (k : Kind) (c : Condition) (v w : ℕ) → holds c v ≡ true → follows k e v w ≡ true → surely_lowers k (of c e) ≡ true → w < v
falls Same k c v w p q s = absurd (false≢true s)
falls Free k c v w p q s = absurd (false≢true s)
falls Up k c v w p q s = absurd (false≢true s)
falls Down Boolean Any v w p q s = absurd (false≢true s)
falls Down Boolean Positive v w p q s = omega (arith, ltb-true 0 v p, eqb-true w 0 q)
falls Down Boolean Zero v w p q s = absurd (false≢true s)
falls Down TrueCount c v w p q s = ltb-true w v q
falls Down FalseCount c v w p q s = ltb-true w v q

rises : (k : Kind) (c : Condition) (e : Effect) (v w : ℕ) → holds c v ≡ true → follows k e v w ≡ true → surely_raises k (of c e) ≡ true → v < w
rises Boolean Any e v w p q s = absurd (false≢true s)
rises Boolean Positive e v w p q s = absurd (false≢true s)
rises Boolean Zero Same v w p q s = absurd (false≢true s)
rises Boolean Zero Free v w p q s = absurd (false≢true s)
rises Boolean Zero Up v w p q s = omega (arith, eqb-true v 0 p, eqb-true w 1 q)
rises Boolean Zero Down v w p q s = absurd (false≢true s)
rises TrueCount c e v w p q s = absurd (false≢true s)
rises FalseCount c e v w p q s = absurd (false≢true s)

-- a Boolean that is 1 before
full : (k : Kind) (c : Condition) (v w : ℕ) → Fitting k w → holds c v ≡ true → not (boolean k && positive c) ≡ false → w ≤ v
full Boolean Any v w fits p s = absurd (true≢false s)
full Boolean Positive v w fits p s = omega (arith, ltb-true 0 v p, fits refl)
full Boolean Zero v w fits p s = absurd (true≢false s)
full TrueCount c v w fits p s = absurd (true≢false s)
full FalseCount c v w fits p s = absurd (true≢false s)

no_rise : (e : Effect) (k : Kind) (c : Condition) (v w : ℕ) → Fitting k w → holds c v ≡ true → follows k e v w ≡ true → may_raise k (of c e) ≡ false → w ≤ v
no_rise Same k c v w fits p q s = omega (arith, eqb-true w v q)
no_rise Free k c v w fits p q s = full k c v w fits p s
no_rise Up k c v w fits p q s = full k c v w fits p s
no_rise Down Boolean c v w fits p q s = omega (arith, eqb-true w 0 q)
no_rise Down TrueCount c v w fits p q s = omega (arith, ltb-true w v q)
no_rise Down FalseCount c v w fits p q s = omega (arith, ltb-true w v q)

-- a Boolean that is 0 before
empty : (c : Condition) (v w : ℕ) → holds c v ≡ true → not (at_zero c) ≡ false → v ≤ w
empty Any v w p s = absurd (true≢false s)
empty Positive v w p s = absurd (true≢false s)
empty Zero v w p s = omega (arith, eqb-true v 0 p)

no_fall : (k : Kind) (e : Effect) (c : Condition) (v w : ℕ) → Fitting k v → holds c v ≡ true → follows k e v w ≡ true → boolean k ≡ true → may_lower k (of c e) ≡ false → v ≤ w
no_fall Boolean Same c v w fits p q b s = omega (arith, eqb-true w v q)
no_fall Boolean Free c v w fits p q b s = empty c v w p s
no_fall Boolean Up c v w fits p q b s = omega (arith, eqb-true w 1 q, fits refl)
no_fall Boolean Down c v w fits p q b s = empty c v w p s
no_fall TrueCount e c v w fits p q b s = absurd (false≢true b)
no_fall FalseCount e c v w fits p q b s = absurd (false≢true b)

pub entries_sound : EntriesSound
entries_sound k e v w fits_v fits_w a =
    let c = e.when in
    let d = e.then in
    let both = and_parts (holds c v) (follows k d v w) a in
    record {
      falls = falls d k c v w both.0 both.1;
      rises = rises k c d v w both.0 both.1;
      no_rise = no_rise d k c v w fits_w both.0 both.1;
      no_fall = no_fall k d c v w fits_v both.0 both.1;
    }
