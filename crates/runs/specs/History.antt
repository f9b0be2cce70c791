-- Lists of calls on a run, and what an observer notes of them from arguments and replies alone. Assumes nothing.
use Rattle.std.specs.Prelude.{◌≡◌, ℕ, Bool, false, ◌&&◌, List, [], ◌∷◌, ◌++◌, length, take, drop, Some, None, Ok, Err, Option, Result, nat_le}
use Rattle.domain.specs.Model.{Meaning}
use Rattle.domain.specs.Refusal.{number_of}
use Rattle.domain.specs.declared.refusal.Refusal.{Refusal}
use Rattle.planner.specs.Search.{task, begun}
use Rattle.planner.specs.Way.{end_of}
use Rattle.planner.specs.declared.node.Node.{Node}
use Rattle.runs.specs.Run.{View}
use Rattle.runs.specs.Calls.{unless, told, handed, placed, found_way, way_actions, way_length, subgoal, begin_fault, begun_run, begun_ticket, work_fault, worked, worked_run, worked_reply, adopt_fault, adopted_run, abandon_fault, closed_run}
use Rattle.runs.specs.declared.claim.Phase.{Phase}
use Rattle.runs.specs.declared.claim.Progressed.{Progressed}
use Rattle.runs.specs.declared.claim.Progressed.TheVariants.{Open as Opened, Found as Finds, Exhausted as Exhausts}
use Rattle.runs.specs.declared.claim.Work.{Work}

-- An adopted segment: where it starts, its actions, the measure of its search, and the length that work replied.
pub record Segment (S M : Type 0) : Type 0 where
  pub start : S
  pub actions : List ℕ
  pub measure : M
  pub replied : ℕ

-- A search that is open: its measure; what its last call that was not refused left in its memory; and what the last work
-- replied, the length once it found a way.
pub record Watch (S M : Type 0) : Type 0 where
  pub measure : M
  pub nodes : List (Node S)
  pub marks : List ℕ
  pub expanded : ℕ
  pub replied : ℕ

-- a reply of work: its search's measure, and the kept states
pub record Told (M : Type 0) : Type 0 where
  pub measure : M
  pub kept : ℕ

-- a search that work called exhausted: where it began, and its measure
pub record Drained (S M : Type 0) : Type 0 where
  pub origin : S
  pub measure : M

-- a plan list that was lent to an adopt that was not refused: before and after
pub record Lent : Type 0 where
  pub before : List ℕ
  pub after : List ℕ

-- What an observer has noted: the adopted segments in their order; the open search; and, the newest first, the replies of
-- work, the exhausted searches, the expanded states of the ended searches, and the plan lists of the adoptions.
pub record Log (S M : Type 0) : Type 0 where
  pub segments : List (Segment S M)
  pub watch : Option (Watch S M)
  pub replies : List (Told M)
  pub exhausted : List (Drained S M)
  pub ended : List ℕ
  pub lists : List Lent

abbrev pub nothing : {S M : Type 0} → Log S M
nothing = record { segments = []; watch = None; replies = []; exhausted = []; ended = []; lists = [] }

-- the steps of the segments, one after the other
abbrev pub steps : {S M : Type 0} → List (Segment S M) → List ℕ
steps [] = []
steps (g ∷ gs) = g.actions ++ steps gs

-- where the segments lead from the model's start, by the model's meaning
abbrev pub reached : {S M : Type 0} → Meaning S → Log S M → S
reached P l = end_of P P.start (steps l.segments)

-- the length that work replied, and 0 without a find
abbrev pub length_in : Progressed → ℕ
length_in (Opened t) = 0
length_in (Finds f n) = n
length_in (Exhausts s) = 0

-- the exhausted search that a reply tells of
abbrev pub drained : {S M : Type 0} → Progressed → S → M → List (Drained S M)
drained (Opened t) s m = []
drained (Finds f n) s m = []
drained (Exhausts t) s m = record { origin = s; measure = m } ∷ []

module _ {S M : Type 0} where
  -- begin handed out a ticket: a search by m is open, in a memory that begin left so
  abbrev pub note_begin : Log S M → M → Result ℕ Refusal → List (Node S) → List ℕ → Log S M
  note_begin l m (Err e) nodes marks = l
  note_begin l m (Ok t) nodes marks = record {
    segments = l.segments;
    watch = Some (record { measure = m; nodes = nodes; marks = marks; expanded = 0; replied = 0 });
    replies = l.replies;
    exhausted = l.exhausted;
    ended = l.ended;
    lists = l.lists;
  }

  -- work replied, and left the memory so
  abbrev pub note_reply : Option (Watch S M) → Meaning S → Log S M → Work → List (Node S) → List ℕ → Log S M
  note_reply None P l r nodes marks = l
  note_reply (Some w) P l r nodes marks = record {
    segments = l.segments;
    watch = Some (record { measure = w.measure; nodes = nodes; marks = marks; expanded = r.expanded; replied = length_in r.claim });
    replies = record { measure = w.measure; kept = r.kept } ∷ l.replies;
    exhausted = drained r.claim (reached P l) w.measure ++ l.exhausted;
    ended = l.ended;
    lists = l.lists;
  }

  abbrev pub note_work : {E : Type 0} → Meaning S → Log S M → Result Work E → List (Node S) → List ℕ → Log S M
  note_work P l (Err e) nodes marks = l
  note_work P l (Ok r) nodes marks = note_reply l.watch P l r nodes marks

  -- a segment of n steps was written into a plan list behind the steps before it, and the search is closed
  abbrev pub note_segment : Option (Watch S M) → Meaning S → Log S M → ℕ → List ℕ → List ℕ → Log S M
  note_segment None P l n before after = l
  note_segment (Some w) P l n before after = record {
    segments = l.segments ++ (record {
      start = reached P l;
      actions = take n (drop (length (steps l.segments)) after);
      measure = w.measure;
      replied = w.replied;
    } ∷ []);
    watch = None;
    replies = l.replies;
    exhausted = l.exhausted;
    ended = w.expanded ∷ l.ended;
    lists = record { before = before; after = after } ∷ l.lists;
  }

  abbrev pub note_adopt : {E : Type 0} → Meaning S → Log S M → Result ℕ E → List ℕ → List ℕ → Log S M
  note_adopt P l (Err e) before after = l
  note_adopt P l (Ok n) before after = note_segment l.watch P l n before after

  -- the search is closed with nothing adopted
  abbrev pub note_end : Option (Watch S M) → Log S M → Log S M
  note_end None l = l
  note_end (Some w) l = record {
    segments = l.segments;
    watch = None;
    replies = l.replies;
    exhausted = l.exhausted;
    ended = w.expanded ∷ l.ended;
    lists = l.lists;
  }

  abbrev pub note_abandon : {X E : Type 0} → Log S M → Result X E → Log S M
  note_abandon l (Err e) = l
  note_abandon l (Ok x) = note_end l.watch l

-- a call that is refused by 9, 10 or 11
abbrev pub exempt : Option Refusal → Bool
exempt None = false
exempt (Some e) = nat_le 9 (number_of e) && nat_le (number_of e) 11

-- Each search is in one memory: a call that 9, 10 and 11 do not refuse is lent what the search's last such call left.
abbrev pub SameStates : {S M : Type 0} → Log S M → Option Refusal → List (Node S) → Type 0
SameStates {S} {M} l f nodes = exempt f ≡ false → (w : Watch S M) → l.watch ≡ Some w → nodes ≡ w.nodes

abbrev pub SameMarks : {S M : Type 0} → Log S M → Option Refusal → List ℕ → Type 0
SameMarks {S} {M} l f marks = exempt f ≡ false → (w : Watch S M) → l.watch ≡ Some w → marks ≡ w.marks

module _ {S M : Type 0} (keys : M → List ℕ → List ℕ) (total : M → ℕ) (v : View S M) (l : Log S M) where
  -- where each call leaves the run, and what is then noted: by the definitions of its contract
  abbrev pub begin_leaves : M → List (Node S) → List ℕ → View S M
  begin_leaves m nodes marks = unless (begin_fault v (total m) (length nodes) (length marks)) v (begun_run v m (total m))

  abbrev pub begin_notes : M → List (Node S) → List ℕ → Log S M
  begin_notes m nodes marks =
      note_begin l m (told (begin_fault v (total m) (length nodes) (length marks)) (begun_ticket v))
      (unless (begin_fault v (total m) (length nodes) (length marks)) nodes (begun (task (subgoal v) (keys m) (total m)) nodes marks).nodes)
      (unless (begin_fault v (total m) (length nodes) (length marks)) marks (begun (task (subgoal v) (keys m) (total m)) nodes marks).marks)

  abbrev pub work_leaves : ℕ → ℕ → List (Node S) → List ℕ → View S M
  work_leaves t n nodes marks = unless (work_fault v t (length nodes) (length marks)) v (worked_run v (worked v keys n nodes marks))

  abbrev pub work_notes : ℕ → ℕ → List (Node S) → List ℕ → Log S M
  work_notes t n nodes marks =
      note_work v.problem l
      (handed (work_fault v t (length nodes) (length marks)) t (worked_reply v t (worked v keys n nodes marks)))
      (unless (work_fault v t (length nodes) (length marks)) nodes (worked v keys n nodes marks).nodes)
      (unless (work_fault v t (length nodes) (length marks)) marks (worked v keys n nodes marks).marks)

  abbrev pub adopt_leaves : ℕ → List (Node S) → List ℕ → View S M
  adopt_leaves c nodes plan =
      unless (adopt_fault v c nodes (length plan)) v
      (adopted_run v (way_actions nodes (found_way v.opened)) (way_length (found_way v.opened)))

  abbrev pub adopt_notes : ℕ → List (Node S) → List ℕ → Log S M
  adopt_notes c nodes plan =
      note_adopt v.problem l (handed (adopt_fault v c nodes (length plan)) c (way_length (found_way v.opened))) plan
      (unless (adopt_fault v c nodes (length plan)) plan (placed plan v.length (way_actions nodes (found_way v.opened))))

  abbrev pub abandon_leaves : Phase → ℕ → View S M
  abandon_leaves kind number = unless (abandon_fault v kind number) v (closed_run v)

  abbrev pub abandon_notes : Phase → ℕ → Log S M
  abandon_notes kind number = note_abandon l (told (abandon_fault v kind number) number)

-- A run that stands as `first` was given calls, in any number and order and with any arguments, each search in one memory
-- and no other hand writing the run: it now stands as v, and an observer has noted l.
pub data Given {S M : Type 0} (keys : M → List ℕ → List ℕ) (total : M → ℕ) (first : View S M) : View S M → Log S M → Type 0 where
  made : Given keys total first first nothing
  begin : {v : View S M} {l : Log S M} → Given keys total first v l → (m : M) (nodes : List (Node S)) (marks : List ℕ)
      → Given keys total first (begin_leaves keys total v l m nodes marks) (begin_notes keys total v l m nodes marks)
  work : {v : View S M} {l : Log S M} → Given keys total first v l → (t n : ℕ) (nodes : List (Node S)) (marks : List ℕ)
      → SameStates l (work_fault v t (length nodes) (length marks)) nodes
      → SameMarks l (work_fault v t (length nodes) (length marks)) marks
      → Given keys total first (work_leaves keys total v l t n nodes marks) (work_notes keys total v l t n nodes marks)
  adopt : {v : View S M} {l : Log S M} → Given keys total first v l → (c : ℕ) (nodes : List (Node S)) (plan : List ℕ)
      → SameStates l (adopt_fault v c nodes (length plan)) nodes
      → Given keys total first (adopt_leaves keys total v l c nodes plan) (adopt_notes keys total v l c nodes plan)
  -- with a ticket, a find or a stub
  abandon : {v : View S M} {l : Log S M} → Given keys total first v l → (kind : Phase) (number : ℕ)
      → Given keys total first (abandon_leaves keys total v l kind number) (abandon_notes keys total v l kind number)
  -- the questions alter nothing
  ask : {v : View S M} {l : Log S M} → Given keys total first v l → Given keys total first v l
