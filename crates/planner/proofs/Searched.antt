-- What the searches by width have found out so far, and why trying them is refused. Assumes nothing.
use Rattle.std.proofs.Common.{◌≡◌, ℕ, ◌+◌, ◌<◌, Bool, true, false, cond, ◌||◌, ltb, List, length, get_or, set, Some, None, Ok, Err, Option, Result, sym, refl, ap, ap₂, ◌∙◌, subst, ⊎_elim, arith}
use Rattle.std.proofs.lemmas.List.{get_or-set_same, get_or-set_other}
use Rattle.std.proofs.lemmas.Bool.{cases_eq, ltb-true, cond-true}
use Rattle.domain.specs.Model.{Meaning}
use Rattle.domain.specs.declared.refusal.Refusal.TheVariants.{AtTarget, FewPlaces, PlanFull, BrokenWay}
use Rattle.domain.specs.declared.refusal.Refusal.{Refusal}
use Rattle.novelty.specs.Tuples.{tuple_count, tuples_fault}
use Rattle.planner.specs.Findings.{WholeFindings}
use Rattle.planner.specs.Search.{Task, Snapshot}
use Rattle.planner.specs.Whole.{at_end, reply_of, search_fault, search_reply, search_nodes}
use Rattle.planner.specs.Way.{way_holds, way_fault, written_reply}
use Rattle.planner.specs.Widths.{first_fault, tuple_task, width_fault, Searched, ExhaustedBelow, UnmadeFrom}
use Rattle.planner.specs.declared.node.Node.{Node}
use Rattle.planner.specs.declared.node.Reply.{Reply}
use Rattle.planner.specs.declared.node.Way.{Way}
use Rattle.planner.specs.declared.node.Outcome.{Outcome}
use Rattle.planner.specs.declared.node.Outcome.TheVariants.{Found, Exhausted, Open}

same_reply : (r s : Reply) → ◌≡◌ {A = Result Reply Refusal} (Ok r) (Ok s) → r ≡ s
same_reply r s e = cc

not_refused : (e : Refusal) (s : Reply) → ◌≡◌ {A = Result Reply Refusal} (Err e) (Ok s) → ⊥
not_refused e s h = let z : ◌≡◌ {A = ℕ} 0 1 = cc in omega arith

-- a search that replied was not refused
replied : {S : Type 0} (f : Option Refusal) (g : Snapshot S) (nodes : List (Node S)) (reply : Reply) → search_reply f g ≡ Ok reply
    → (f ≡ None) × (reply ≡ reply_of g) × (search_nodes f g nodes ≡ g.nodes)
replied (Some e) g nodes reply h = absurd (not_refused e reply h)
replied None g nodes reply h = (refl, same_reply reply (reply_of g) (sym h), refl)

-- a whole search by Q, which is the task of k, after the measure was made
pub searched_from : {S : Type 0} (P : Meaning S) (k : ℕ) (Q : Task S) → tuple_task P k ≡ Q → (nodes end : List (Node S)) (marks : List ℕ)
    (r : Result Reply Refusal) (reply : Reply) → r ≡ search_reply (search_fault Q nodes marks) (at_end Q nodes marks)
    → end ≡ search_nodes (search_fault Q nodes marks) (at_end Q nodes marks) nodes
    → ((s : Reply) → r ≡ Ok s → WholeFindings Q nodes marks end s) → r ≡ Ok reply → Searched P k end reply
searched_from P k Q is nodes end marks r reply value left found ok =
    let Q' = tuple_task P k in
    let v = subst (λ T. r ≡ search_reply (search_fault T nodes marks) (at_end T nodes marks)) (sym is) value in
    let l = subst (λ T. end ≡ search_nodes (search_fault T nodes marks) (at_end T nodes marks) nodes) (sym is) left in
    let done = replied (search_fault Q' nodes marks) (at_end Q' nodes marks) nodes reply (sym v ∙ ok) in
    record {
      nodes = nodes;
      marks = marks;
      begun = done.0;
      reply = done.1;
      left = l ∙ done.2;
      findings = subst (λ T. WholeFindings T nodes marks end reply) (sym is) (found reply ok);
    }

-- a search that was refused, by its fault
pub refused_by : {S : Type 0} (f : Option Refusal) (g : Snapshot S) (e : Refusal) → search_reply f g ≡ Err e → f ≡ Some e
refused_by (Some x) g e h = cc
refused_by None g e h = let z : ◌≡◌ {A = ℕ} 0 1 = cc in absurd (omega arith)

-- whether a search can be had turns on how many nodes and marks there are, not on what they hold
pub fault_by_length : {S : Type 0} (P : Meaning S) (k : ℕ) (nodes other : List (Node S)) (marks more : List ℕ)
    → length nodes ≡ length other → length marks ≡ length more → width_fault P k nodes marks ≡ width_fault P k other more
fault_by_length P k nodes other marks more n m =
    ap₂
    (λ a b.
    first_fault (tuples_fault P.atoms k)
    (cond (P.target P.start) (Some AtTarget)
    (cond (ltb a (tuple_count P.atoms k) || ltb b (tuple_count P.atoms k)) (Some FewPlaces) None)))
    n m

-- a whole search ends found or exhausted
pub ended_exhausted : (o : Outcome) → ((w : Way) → o ≡ Found w → ⊥) → (o ≡ Open → ⊥) → o ≡ Exhausted
ended_exhausted (Found w) not_found not_open = absurd (not_found w refl)
ended_exhausted Exhausted not_found not_open = refl
ended_exhausted Open not_found not_open = absurd (not_open refl)

-- a way that holds is refused only where the list is too short
pub full_by : {S : Type 0} (P : Meaning S) (nodes : List (Node S)) (w : Way) (places : ℕ) (e : Refusal) → way_holds P nodes w ≡ true
    → way_fault P nodes w places ≡ Some e → (e ≡ PlanFull) × (places < w.length)
full_by P nodes w places e holds fault = go (ltb places w.length) refl fault
  where
    go : (b : Bool) → ltb places w.length ≡ b → cond b (Some PlanFull) (cond (way_holds P nodes w) None (Some BrokenWay)) ≡ Some e
        → (e ≡ PlanFull) × (places < w.length)
    go true short h = (cc, ltb-true places w.length short)
    go false long h =
        let none : ◌≡◌ {A = Option Refusal} None (Some e) = sym (cond-true (way_holds P nodes w) None (Some BrokenWay) holds) ∙ h in
        let z : ◌≡◌ {A = ℕ} 0 1 = cc in absurd (omega arith)

pub written_by : (f : Option Refusal) (n : ℕ) (e : Refusal) → written_reply f n ≡ Err e → f ≡ Some e
written_by (Some x) n e h = cc
written_by None n e h = let z : ◌≡◌ {A = ℕ} 0 1 = cc in absurd (omega arith)

pub written_ok : (f : Option Refusal) (n m : ℕ) → written_reply f n ≡ Ok m → (f ≡ None) × (m ≡ n)
written_ok (Some x) n m h = let z : ◌≡◌ {A = ℕ} 0 1 = cc in absurd (omega arith)
written_ok None n m h = (refl, cc)

-- one more search ended exhausted
pub exhausted_more : {S : Type 0} (P : Meaning S) (k : ℕ) (replies : List (Option Reply)) (r : Reply) (end : List (Node S)) → k < length replies
    → ExhaustedBelow P k replies → Searched P k end r → r.outcome ≡ Exhausted → ExhaustedBelow P (k + 1) (set replies k (Some r))
exhausted_more P k replies r end within before here out j lt =
    ⊎_elim
    (λ same.
    (end, r, ap (λ i. get_or (set replies k (Some r)) i None) same ∙ get_or-set_same replies k (Some r) None within, subst (λ i. Searched P i end r) (sym same) here, out))
    (λ other.
    let old = before j (omega arith) in
    (old.0, old.1, get_or-set_other replies k j (Some r) None other ∙ old.2, old.3, old.4))
    (cases_eq j k)

-- writing the reply of k leaves those below it,
pub exhausted_same : {S : Type 0} (P : Meaning S) (k : ℕ) (replies : List (Option Reply)) (r : Reply) → ExhaustedBelow P k replies
    → ExhaustedBelow P k (set replies k (Some r))
exhausted_same P k replies r before j lt =
    let other : j ≡ k → ⊥ = λ e. omega arith in
    let old = before j lt in
    (old.0, old.1, get_or-set_other replies k j (Some r) None other ∙ old.2, old.3, old.4)

-- and the places from k + 1 on
pub unmade_same : {S : Type 0} (P : Meaning S) (k : ℕ) (replies : List (Option Reply)) (r : Reply) → UnmadeFrom P k replies
    → UnmadeFrom P (k + 1) (set replies k (Some r))
unmade_same P k replies r unmade j le =
    let other : j ≡ k → ⊥ = λ e. omega arith in
    get_or-set_other replies k j (Some r) None other ∙ unmade j (omega arith)
