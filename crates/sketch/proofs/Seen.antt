-- What the code reads of features and rules, as the definitions say it. Assumes nothing.
use Rattle.std.proofs.Common.{◌≡◌, ℕ, ◌<◌, Bool, true, false, not, ◌&&◌, ◌||◌, List, length, get_or, sym, refl}
use Rattle.std.proofs.lemmas.List.{get_or-map, length-map}
use Rattle.sketch.specs.Feature.{kinds_of}
use Rattle.sketch.specs.Rule.{kind_at}
use Rattle.sketch.specs.Sieve.{surely_lowers, surely_raises, one_way}
use Rattle.sketch.specs.declared.feature.Feature.{Feature}
use Rattle.sketch.specs.declared.feature.Kind.{Kind}
use Rattle.sketch.specs.declared.feature.Kind.TheVariants.{Boolean}
use Rattle.sketch.specs.declared.rule.Entry.{Entry}

pub kind_read : (fs : List Feature) (f : ℕ) (d : Feature) → f < length fs → (get_or fs f d).kind ≡ kind_at (kinds_of fs) f
kind_read fs f d h = sym (get_or-map (λ x. x.kind) fs f d Boolean h)

pub length_kinds : (fs : List Feature) → length (kinds_of fs) ≡ length fs
length_kinds fs = length-map fs (λ x. x.kind)

-- what may move a feature back counts only where the entry surely moves it
pub asked_where_it_counts : (k : Kind) (e : Entry) (u d : Bool) → one_way k e (surely_lowers k e && u) (surely_raises k e && d) ≡ one_way k e u d
asked_where_it_counts k e u d = go (surely_lowers k e) (surely_raises k e)
  where
    go : (a b : Bool) → ((a && not (a && u)) || (b && not (b && d))) ≡ ((a && not u) || (b && not d))
    go true true = refl
    go true false = refl
    go false true = refl
    go false false = refl
