-- The way back from a kept state to the start, by its links, and whether a found way runs. Assumes nothing.
use Rattle.std.specs.Prelude.{ℕ, zero, suc, Bool, cond, ◌&&◌, List, [], ◌∷◌, ◌++◌, map, length, drop, Some, None, Ok, Err, Option, Result, ◌==◌, nat_lt, slice_index}
use Rattle.domain.specs.Model.{Meaning}
use Rattle.domain.specs.declared.refusal.Refusal.{Refusal}
use Rattle.domain.specs.declared.refusal.Refusal.TheVariants.{PlanFull, BrokenWay}
use Rattle.planner.specs.declared.node.Node.{Node}
use Rattle.planner.specs.declared.node.Way.{Way}

module _ {S : Type 0} (nodes : List (Node S)) where
  -- the link of number i: the number before it, and the action
  abbrev pub parent_of : ℕ → ℕ
  parent_of i = slice_index (map (λ n. n.parent) nodes) i

  abbrev pub action_of : ℕ → ℕ
  action_of i = slice_index (map (λ n. n.action) nodes) i

  -- the number that the link of i leads to, if it is a lower one
  abbrev pub lower : ℕ → Option ℕ
  lower i = cond (nat_lt (parent_of i) i) (Some (parent_of i)) None

  -- The actions of the links from number i back to 0, or to a link that is not to a lower number, which is not
  -- taken; in the order of the way. The first number bounds the steps: i is enough.
  unfoldable pub way_to : ℕ → ℕ → List ℕ
  way_to zero i = []
  way_to (suc n) zero = []
  way_to (suc n) (suc i) =
      cond (nat_lt (parent_of (suc i)) (suc i)) (way_to n (parent_of (suc i)) ++ (action_of (suc i) ∷ [])) []

  -- the number where the links from i end: 0, or the first whose link is not to a lower number
  unfoldable pub root : ℕ → ℕ → ℕ
  root zero i = i
  root (suc n) zero = zero
  root (suc n) (suc i) = cond (nat_lt (parent_of (suc i)) (suc i)) (root n (parent_of (suc i))) (suc i)

  -- the actions of a found way
  abbrev pub actions_of : Way → List ℕ
  actions_of w = way_to w.parent w.parent ++ (w.action ∷ [])

-- the actions, one after the other, apply from s on and end in a target
abbrev pub runs_to_target : {S : Type 0} → Meaning S → S → List ℕ → Bool
runs_to_target P s [] = P.target s
runs_to_target P s (a ∷ rest) = P.applies s a && runs_to_target P (P.next s a) rest

-- the way's links are there and lead back to 0, it has its length, runs from the start and ends in a target
abbrev pub way_holds : {S : Type 0} → Meaning S → List (Node S) → Way → Bool
way_holds P nodes w =
    nat_lt w.parent (length nodes)
    && (root nodes w.parent w.parent == 0
    && (length (actions_of nodes w) == w.length && runs_to_target P P.start (actions_of nodes w)))

-- why a way is not written into a list of so many places
abbrev pub way_fault : {S : Type 0} → Meaning S → List (Node S) → Way → ℕ → Option Refusal
way_fault P nodes w places =
    cond (nat_lt places w.length) (Some PlanFull) (cond (way_holds P nodes w) None (Some BrokenWay))

-- the reply to writing a way: its length, or the fault
abbrev pub written_reply : Option Refusal → ℕ → Result ℕ Refusal
written_reply (Some e) n = Err e
written_reply None n = Ok n

-- the list afterwards: it begins with the way; with a fault it is as it was
abbrev pub written_list : Option Refusal → List ℕ → List ℕ → List ℕ
written_list (Some e) actions list = list
written_list None actions list = actions ++ drop (length actions) list

-- the state where the actions, one after the other, lead from s
abbrev pub end_of : {S : Type 0} → Meaning S → S → List ℕ → S
end_of P s [] = s
end_of P s (a ∷ rest) = end_of P (P.next s a) rest
