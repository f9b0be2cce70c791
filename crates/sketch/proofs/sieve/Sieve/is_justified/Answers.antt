use Rattle.std.proofs.Common.{◌≡◌, Bool, ◌&&◌, sym, ap, ◌∙◌, rules}
use Rattle.sketch.specs.Rule.{entry_at, kind_at}
use Rattle.sketch.specs.Sieve.{surely_lowers, surely_raises, may_raise, may_lower, one_way, justifies, raised, lowered}
use Rattle.sketch.specs.Sifted.{kinds_in, some_left}
use Rattle.sketch.specs.declared.feature.Kind.{Kind}
use Rattle.sketch.specs.declared.rule.Entry.{Entry}
use Rattle.sketch.proofs.Seen.{kind_read, asked_where_it_counts}
use Rattle.sketch.proofs.sieve.Sieve.is_justified.Goals.{then-surely_lowers, else-surely_lowers, then-surely_raises, else-surely_raises}
use Rattle.sketch.proofs.sieve.Sieve.is_justified.Goals as goal

moved_back : (e : Entry) {k k' : Kind} {u d : Bool} (u' d' : Bool) → k ≡ k' → u ≡ (surely_lowers k e && u') → d ≡ (surely_raises k e && d')
    → one_way k e u d ≡ one_way k' e u' d'
moved_back e {k} {k'} {u} {d} u' d' p q r =
    (λ i. one_way k e (q i) (r i)) ∙ asked_where_it_counts k e u' d' ∙ ap (λ (x : Kind). one_way x e u' d') p

pub returns : goal.returns
unfolding justifies raised lowered
returns c =
    let s = c.args.self.now in
    let f = c.args.feature in
    let e = entry_at c.args.rule.now f in
    let k = kind_at (kinds_in s) f in
    let up : c.if-surely_lowers.raised ≡ (_ && some_left (may_raise k) s f) = elim c.if-surely_lowers.branch [
      | then-surely_lowers w ↦
          w.raised-is ∙ w.some_left-raised.ensures (may_raise k) (λ e r post. search (rules, kind_read))
          ∙ ap (λ t. t && some_left (may_raise k) s f) (sym w.if-surely_lowers.true ∙ c.surely_lowers.ensures)
      | else-surely_lowers w ↦
          w.raised-is ∙ w.if-surely_lowers.false ∙ ap (λ t. t && some_left (may_raise k) s f) (sym w.if-surely_lowers.false ∙ c.surely_lowers.ensures)
    ] in
    let down : c.if-surely_raises.lowered ≡ (_ && some_left (may_lower k) s f) = elim c.if-surely_raises.branch [
      | then-surely_raises w ↦
          w.lowered-is ∙ w.some_left-lowered.ensures (may_lower k) (λ e r post. search (rules, kind_read))
          ∙ ap (λ t. t && some_left (may_lower k) s f) (sym w.if-surely_raises.true ∙ c.surely_raises.ensures)
      | else-surely_raises w ↦
          w.lowered-is ∙ w.if-surely_raises.false ∙ ap (λ t. t && some_left (may_lower k) s f) (sym w.if-surely_raises.false ∙ c.surely_raises.ensures)
    ] in
    c.moves_one_way.ensures ∙ moved_back e (some_left (may_raise k) s f) (some_left (may_lower k) s f) (kind_read s.features.now f _ c.requires) up down
