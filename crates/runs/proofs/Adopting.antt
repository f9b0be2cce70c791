-- A segment written into the lent tail of the plan list, and why it is not. Assumes nothing.
use Rattle.std.proofs.Common.{◌≡◌, ℕ, ◌+◌, ◌-◌, ◌<◌, ◌≤◌, min, Bool, true, false, cond, eqb, ltb, List, ◌++◌, length, take, drop, Some, None, Ok, Option, Result, sym, refl, ap, ◌∙◌, subst, ap₂, ⊎_elim, append_assoc, arith, length-drop, length-take}
use borrow.Rule.Slice.PartMut.{put_mid, mid_of, post_of}
use Rattle.std.proofs.lemmas.List.{take-append-drop, take_at, drop_at, drop-append-le, drop-drop, length-take-le}
use Rattle.std.proofs.lemmas.Bool.{cases_lt, lt-ltb, le-ltb, ltb-false, cond-true, cond-false, and_parts, eqb-true}
use Rattle.domain.specs.Model.{Meaning}
use Rattle.domain.specs.declared.refusal.Refusal.{Refusal}
use Rattle.domain.specs.declared.refusal.Refusal.TheVariants.{FewPlaces, ForeignClaim, PlanFull, BrokenWay}
use Rattle.planner.specs.Way.{root, actions_of, way_holds, way_fault, written_reply, written_list}
use Rattle.planner.specs.declared.node.Node.{Node}
use Rattle.planner.specs.declared.node.Way.{Way}
use Rattle.runs.specs.Run.{View}
use Rattle.runs.specs.Calls.{unless, told, placed, claims, key_count, found_way, way_actions, way_length, subgoal, segment_fault, adopt_by, adopt_fault, adopted_run}
use Rattle.runs.specs.declared.claim.Phase.TheVariants.{Met}
use Rattle.runs.proofs.Replies.{told_fault, no_refusal, passed, not_broken}

told_written : (f : Option Refusal) (n : ℕ) → written_reply f n ≡ told f n
told_written (Some e) n = refl
told_written None n = refl

-- fewer than k places are left from a on, by the number of the last
ltb_shift : (e a k : ℕ) → a ≤ e → ltb (e - a) k ≡ ltb e (a + k)
ltb_shift e a k le =
    ⊎_elim (λ l. let low : e - a < k = omega arith in lt-ltb (e - a) k low ∙ sym (lt-ltb e (a + k) l))
    (λ l. let high : k ≤ e - a = omega arith in le-ltb (e - a) k high ∙ sym (le-ltb e (a + k) l)) (cases_lt e (a + k))

-- a way without a fault has its length, and the list has room for it
module _ {S : Type 0} (P : Meaning S) (nodes : List (Node S)) (w : Way) (places : ℕ) where
  fault_none : way_fault P nodes w places ≡ None → (w.length ≤ places) × (way_holds P nodes w ≡ true)
  fault_none e = go (ltb places w.length) (way_holds P nodes w) refl refl e
    where
      go : (b h : Bool) → ltb places w.length ≡ b → way_holds P nodes w ≡ h → cond b (Some PlanFull) (cond h None (Some BrokenWay)) ≡ None
          → (w.length ≤ places) × (way_holds P nodes w ≡ true)
      go true h short holds bad = let no : ◌≡◌ {A = ℕ} 0 1 = cc in absurd (omega arith)
      go false true room holds bad = (ltb-false places w.length room, holds)
      go false false room holds bad = let no : ◌≡◌ {A = ℕ} 0 1 = cc in absurd (omega arith)

pub holds_long : {S : Type 0} (P : Meaning S) (nodes : List (Node S)) (w : Way) → way_holds P nodes w ≡ true → length (actions_of nodes w) ≡ w.length
holds_long P nodes w h =
    let links = (and_parts (ltb w.parent (length nodes)) _ h).1 in
    let rest = (and_parts (eqb (root nodes w.parent w.parent) 0) _ links).1 in
    eqb-true _ _ (and_parts (eqb (length (actions_of nodes w)) w.length) _ rest).0

-- the tail of the list from a on, with the first n of it replaced
tail_replaced : (xs ys : List ℕ) (a k : ℕ) → length ys ≤ length (mid_of a k xs)
    → put_mid a k xs (ys ++ drop (length ys) (mid_of a k xs)) ≡ placed xs a ys
tail_replaced xs ys a k fits =
    let rest = drop a xs in
    ap (λ zs. take a xs ++ zs)
    (append_assoc ys (drop (length ys) (take k rest)) (drop k rest)
    ∙ ap (λ zs. ys ++ zs)
    (sym (drop-append-le (length ys) (take k rest) (drop k rest) fits) ∙ ap (drop (length ys)) (take-append-drop k rest) ∙ drop-drop (length ys) a xs))

tail_same : (xs : List ℕ) (a k : ℕ) → put_mid a k xs (mid_of a k xs) ≡ xs
tail_same xs a k = ap (λ zs. take a xs ++ zs) (take-append-drop k (drop a xs)) ∙ take-append-drop a xs

-- the list is lent from its used length to place e
module _ {S M : Type 0} (v : View S M) (w : Way) (count : ℕ) (nodes : List (Node S)) (xs : List ℕ)
    (enough : count ≤ length nodes) (e : ℕ) (end : e ≡ min (length xs) 4096) where
  first_check : segment_fault v w count nodes (length xs)
      ≡ cond (ltb e (v.length + w.length)) (Some PlanFull) (cond (way_holds (subgoal v) nodes w) None (Some BrokenWay))
  first_check =
      cond-false _ _ _ (le-ltb (length nodes) count enough)
      ∙ ap (λ n. cond (ltb n (v.length + w.length)) (Some PlanFull) (cond (way_holds (subgoal v) nodes w) None (Some BrokenWay))) (sym end)

  pub fault_full : e < v.length → segment_fault v w count nodes (length xs) ≡ Some PlanFull
  fault_full l = let short : e < v.length + w.length = omega arith in first_check ∙ cond-true _ _ _ (lt-ltb e (v.length + w.length) short)

  -- P is what is searched
  module _ (P : Meaning S) (same : P ≡ subgoal v) (used : v.length ≤ e) where
    tail_length : length (mid_of v.length (e - v.length) xs) ≡ e - v.length
    tail_length = simp (length-take, length-drop) (omega arith)

    fault_is : way_fault P nodes w (length (mid_of v.length (e - v.length) xs)) ≡ segment_fault v w count nodes (length xs)
    fault_is =
        ap₂ (λ n Q. cond (ltb n w.length) (Some PlanFull) (cond (way_holds Q nodes w) None (Some BrokenWay))) tail_length same
        ∙ ap (λ b. cond b (Some PlanFull) (cond (way_holds (subgoal v) nodes w) None (Some BrokenWay))) (ltb_shift e v.length w.length used)
        ∙ sym first_check

    pub reply_is : (r : Result ℕ Refusal) → r ≡ written_reply (way_fault P nodes w (length (mid_of v.length (e - v.length) xs))) w.length
        → r ≡ told (segment_fault v w count nodes (length xs)) w.length
    reply_is r h = h ∙ ap (λ f. written_reply f w.length) fault_is ∙ told_written _ w.length

    pub list_is : (ys : List ℕ)
        → ys ≡ written_list (way_fault P nodes w (length (mid_of v.length (e - v.length) xs))) (actions_of nodes w) (mid_of v.length (e - v.length) xs)
        → take v.length xs ++ (ys ++ post_of v.length (e - v.length) xs)
        ≡ unless (segment_fault v w count nodes (length xs)) xs (placed xs v.length (actions_of nodes w))
    list_is ys h =
        ap (put_mid v.length (e - v.length) xs) h
        ∙ go (way_fault P nodes w (length (mid_of v.length (e - v.length) xs))) refl
        ∙ ap (λ f. unless f xs (placed xs v.length (actions_of nodes w))) fault_is
      where
        go : (f : Option Refusal) → way_fault P nodes w (length (mid_of v.length (e - v.length) xs)) ≡ f
            → put_mid v.length (e - v.length) xs (written_list f (actions_of nodes w) (mid_of v.length (e - v.length) xs))
            ≡ unless f xs (placed xs v.length (actions_of nodes w))
        go (Some d) is = tail_same xs v.length (e - v.length)
        go None is =
            let facts = fault_none P nodes w _ is in
            let long = holds_long P nodes w facts.1 in
            tail_replaced xs (actions_of nodes w) v.length (e - v.length) (subst (λ n. n ≤ length (mid_of v.length (e - v.length) xs)) (sym long) facts.0)

-- what stands where nothing speaks against adopting
pub record Adoptable {S M : Type 0} (v : View S M) (number : ℕ) (nodes : List (Node S)) (places : ℕ) : Type 0 where
  pub way : Way
  pub found : found_way v.opened ≡ Some way
  pub latest : claims v.opened v.searches Met number ≡ true
  pub states : key_count v.opened ≤ length nodes
  pub room : v.length + way.length ≤ min places 4096
  pub holds : way_holds (subgoal v) nodes way ≡ true

pub adoptable : {S M : Type 0} (v : View S M) (number : ℕ) (nodes : List (Node S)) (places : ℕ) → adopt_fault v number nodes places ≡ None
    → Adoptable v number nodes places
adoptable {S} {M} v number nodes places e = first (claims v.opened v.searches Met number) refl e
  where
    second : (f : Option Way) → found_way v.opened ≡ f → claims v.opened v.searches Met number ≡ true
        → adopt_by v f (key_count v.opened) nodes places ≡ None → Adoptable v number nodes places
    second None none latest h = absurd (no_refusal ForeignClaim h)
    second (Some w) is latest h =
        let states = passed (ltb (length nodes) (key_count v.opened)) FewPlaces _ h in
        let room = passed (ltb (min places 4096) (v.length + w.length)) PlanFull _ states.1 in
        record {
          way = w;
          found = is;
          latest = latest;
          states = ltb-false _ _ states.0;
          room = ltb-false _ _ room.0;
          holds = not_broken (way_holds (subgoal v) nodes w) BrokenWay room.1;
        }

    first : (b : Bool) → claims v.opened v.searches Met number ≡ b
        → cond b (adopt_by v (found_way v.opened) (key_count v.opened) nodes places) (Some ForeignClaim) ≡ None → Adoptable v number nodes places
    first true latest h = second (found_way v.opened) refl latest h
    first false foreign h = absurd (no_refusal ForeignClaim h)

-- a segment read back from where it was placed
pub read_back : (plan segment : List ℕ) (a n : ℕ) → n ≡ length segment → a ≤ length plan → mid_of a n (placed plan a segment) ≡ segment
read_back plan segment a n long fits =
    ap (take n) (drop_at (take a plan) _ a (length-take-le a plan fits)) ∙ take_at segment _ n (sym long)

-- the run once the segment is taken up
module _ {S M : Type 0} (v : View S M) (number : ℕ) (nodes : List (Node S)) (plan : List ℕ) (x : ℕ) (n : ℕ)
    (ok : Ok n ≡ told (adopt_fault v number nodes (length plan)) x) (is : x ≡ way_length (found_way v.opened)) where
  no_fault : adopt_fault v number nodes (length plan) ≡ None
  no_fault = (told_fault _ x n ok).0

  fine : Adoptable v number nodes (length plan)
  fine = adoptable v number nodes (length plan) no_fault

  pub steps_are : n ≡ length (way_actions nodes (found_way v.opened))
  steps_are =
      (told_fault _ x n ok).1 ∙ is ∙ ap way_length fine.found ∙ sym (holds_long (subgoal v) nodes fine.way fine.holds)
      ∙ sym (ap (λ f. length (way_actions nodes f)) fine.found)

  pub room_for : v.length + n ≤ min (length plan) 4096
  room_for = let e = (told_fault _ x n ok).1 ∙ is ∙ ap way_length fine.found in let r = fine.room in omega arith

  pub run_ok : (w : View S M) (now_plan : List ℕ)
      → now_plan ≡ unless (adopt_fault v number nodes (length plan)) plan (placed plan v.length (way_actions nodes (found_way v.opened)))
      → w ≡ adopted_run v (mid_of v.length (v.length + n - v.length) now_plan) (length (mid_of v.length (v.length + n - v.length) now_plan))
      → w ≡ unless (adopt_fault v number nodes (length plan)) v (adopted_run v (way_actions nodes (found_way v.opened)) x)
  run_ok w now_plan list e =
      let acts = way_actions nodes (found_way v.opened) in
      let inside : v.length ≤ length plan = let r = room_for in omega arith in
      let many : v.length + n - v.length ≡ n = omega arith in
      let seg : mid_of v.length (v.length + n - v.length) now_plan ≡ acts =
      ap (λ k. mid_of v.length k now_plan) many ∙ ap (mid_of v.length n) (list ∙ ap (λ f. unless f plan (placed plan v.length acts)) no_fault) ∙ read_back plan acts v.length n steps_are inside in
      e ∙ ap (λ s. adopted_run v s (length s)) seg ∙ ap (adopted_run v acts) (sym steps_are ∙ (told_fault _ x n ok).1)
      ∙ sym (ap (λ f. unless f v (adopted_run v acts x)) no_fault)
