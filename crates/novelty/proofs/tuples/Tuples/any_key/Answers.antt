use Rattle.std.proofs.Common.{◌≡◌, ℕ, List, ◌++◌, length, take, filter, nat_lt, sym, ap, ◌∙◌}
use Rattle.std.proofs.lemmas.List.{take_at}
use Rattle.domain.specs.Atoms.{members, limited}
use Rattle.domain.specs.declared.atoms.AtomSet.{AtomSet}
use Rattle.domain.proofs.Members.{members_limited}
use Rattle.novelty.specs.Tuples.{tuple_keys}
use Rattle.novelty.specs.Keys.{kept_below}
use Rattle.novelty.proofs.tuples.Tuples.any_key.Goals as goal

-- what is listed are the atoms of the set s below N
listed : (s below : AtomSet) (N n : ℕ) (list past : List ℕ) → below ≡ limited s N → n ≡ length (members below) → list ≡ members below ++ past
    → take n list ≡ filter (λ a. nat_lt a N) (members s)
listed s below N n list past e count after = ap (take n) after ∙ take_at (members below) past n (sym count) ∙ ap members e ∙ members_limited s N

pub none-requires : goal.none-requires
none-requires g c =
    let made = c.list_members-count.ensures in
    rw (listed c.args.atoms.now _ c.args.self.now.atoms _ _ _ c.below.ensures.value made.value made.after)
    (kept_below c.args.self.now.atoms (members c.args.atoms.now))

pub returns : goal.returns
unfolding tuple_keys
returns g c =
    let made = c.list_members-count.ensures in
    rw (c.none.ensures, listed c.args.atoms.now _ c.args.self.now.atoms _ _ _ c.below.ensures.value made.value made.after) at c.any_key.ensures
