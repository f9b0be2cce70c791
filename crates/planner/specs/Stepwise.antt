-- A search under way, that is begun once and advanced step by step: what each call replies and leaves. Assumes nothing.
use Rattle.std.specs.Prelude.{◌≡◌, ℕ, ◌<◌, ◌≤◌, Bool, true, cond, ◌||◌, List, None, Ok, Err, Option, Result, nat_lt}
use Rattle.domain.specs.Model.{Meaning}
use Rattle.domain.specs.declared.refusal.Refusal.{Refusal}
use Rattle.domain.specs.declared.refusal.Refusal.TheVariants.{FewPlaces}
use Rattle.planner.specs.declared.node.Link.{Link}
use Rattle.planner.specs.declared.node.Node.{Node}
use Rattle.planner.specs.declared.node.Outcome.{Outcome}
use Rattle.planner.specs.declared.node.Outcome.TheVariants.{Found, Exhausted, Open}
use Rattle.planner.specs.declared.node.Progress.{Progress}
use Rattle.planner.specs.declared.node.Reply.{Reply}
use Rattle.planner.specs.Search.{Snapshot, task, advanced}
use Rattle.planner.specs.Whole.{outcome_of, reply_of, linked}

-- Where a search stands: its measure and how many keys that has; how many states are expanded and kept, and the link that
-- met a target, once one did; and what the last advance replied.
pub record UnderWay (M : Type 0) : Type 0 where
  pub measure : M
  pub count : ℕ
  pub expanded : ℕ
  pub kept : ℕ
  pub met : Option Link
  pub outcome : Outcome

-- where a search by the measure m of n keys stands, by its progress and by what its last advance replied
abbrev pub standing : {M : Type 0} → M → ℕ → Progress → Outcome → UnderWay M
standing m n p outcome =
    record { measure = m; count = n; expanded = p.expanded; kept = p.kept; met = p.met; outcome = outcome }

-- what holds of the progress of every search by n keys
pub record Bounds (n : ℕ) (p : Progress) : Type 0 where
  pub some : 1 ≤ n
  pub few : n ≤ 65536
  pub kept : p.kept ≤ n
  pub expanded : p.expanded ≤ n
  pub within : linked n p.met ≡ true

-- the same of where a search stands, which every call tells
abbrev pub InBounds : {M : Type 0} → UnderWay M → Type 0
InBounds u = Bounds u.count (record { expanded = u.expanded; kept = u.kept; met = u.met })

-- the last state on a way that was found is among the first n
abbrev pub WayWithin : ℕ → Outcome → Type 0
WayWithin n (Found w) = w.parent < n
WayWithin n Exhausted = Unit {0}
WayWithin n Open = Unit {0}

-- what holds of a reply of every search by n keys
pub record ReplyBounds (n : ℕ) (r : Reply) : Type 0 where
  pub kept : r.kept ≤ n
  pub expanded : r.expanded ≤ n
  pub way : WayWithin n r.outcome

-- a search by the measure m of n keys that has kept its start, which waits
abbrev pub started : {M : Type 0} → M → ℕ → UnderWay M
started m n = record { measure = m; count = n; expanded = 0; kept = 1; met = None; outcome = Open }

-- fewer places for states, or for marks, than keys
abbrev pub lacks : ℕ → ℕ → ℕ → Bool
lacks count places marks = nat_lt places count || nat_lt marks count

-- a search and its memory, together
abbrev pub resumed : {M S : Type 0} → UnderWay M → List (Node S) → List ℕ → Snapshot S
resumed u nodes marks = record { nodes = nodes; marks = marks; expanded = u.expanded; kept = u.kept; met = u.met }

-- the search, once it stands as g
abbrev pub moved_on : {M S : Type 0} → UnderWay M → Snapshot S → UnderWay M
moved_on u g = record {
  measure = u.measure;
  count = u.count;
  expanded = g.expanded;
  kept = g.kept;
  met = g.met;
  outcome = outcome_of g.nodes g.met g.expanded g.kept;
}

-- the search of P after at most `budget` more expansions, and its memory
abbrev pub worked_on : {M S : Type 0} → Meaning S → (M → List ℕ → List ℕ) → ℕ → UnderWay M → List (Node S) → List ℕ → Snapshot S
worked_on P keys budget u nodes marks = advanced (task P (keys u.measure) u.count) budget (resumed u nodes marks)

-- what an advance replies
abbrev pub advance_reply : {S : Type 0} → Snapshot S → Bool → Result Reply Refusal
advance_reply g few = cond few (Err FewPlaces) (Ok (reply_of g))
