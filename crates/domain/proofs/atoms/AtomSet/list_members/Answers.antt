use Rattle.std.proofs.Common.{◌≡◌, ℕ, ◌+◌, ◌<◌, List, [], ◌∷◌, ◌++◌, length, get_or, drop, set, sym, ap, ◌∙◌, ap₂, arith, rules}
use Rattle.std.proofs.lemmas.List.{append_assoc, drop_more, length_push, set_at}
use Rattle.domain.specs.Atoms.{members, members_from}
use Rattle.domain.specs.Listed.{members_rising}
use Rattle.domain.proofs.Members.{members_from_0}
use Rattle.domain.proofs.Tally.{room_for}
use Rattle.domain.proofs.atoms.AtomSet.list_members.Goals as goal

pub loop-atom-init : goal.loop-atom-init
loop-atom-init c =
    let it = c.into_iter-atom-iterator.result in
    let same : members_from it.set.now it.from ≡ members c.args.self.now =
    ap (λ i. members_from i.set.now i.from) c.into_iter-atom-iterator.ensures.into_iter_gives
    ∙ ap₂ members_from c.iter-atom-items.ensures.set c.iter-atom-items.ensures.from ∙ members_from_0 c.args.self.now in
    record { all = same; counted = search rules; written = search rules }

pub offset_bounds-list-count : goal.offset_bounds-list-count
offset_bounds-list-count c =
    let all = ap (λ (ys : List ℕ). c.loop-atom.yielded ++ ys) (sym c.in-Some.ensures.steps) ∙ c.loop-atom.invariant.all in
    omega (arith, c.loop-atom.invariant.counted, room_for c.args.self.now c.loop-atom.yielded c.in-Some.atom (members_from c.next.new.self.set.now c.next.new.self.from) all)

pub bounds-list-count : goal.bounds-list-count
bounds-list-count c =
    let all = ap (λ (ys : List ℕ). c.loop-atom.yielded ++ ys) (sym c.in-Some.ensures.steps) ∙ c.loop-atom.invariant.all in
    omega (arith, c.loop-atom.invariant.counted, room_for c.args.self.now c.loop-atom.yielded c.in-Some.atom (members_from c.next.new.self.set.now c.next.new.self.from) all)

pub overflow_add-count : goal.overflow_add-count
overflow_add-count c =
    let all = ap (λ (ys : List ℕ). c.loop-atom.yielded ++ ys) (sym c.in-Some.ensures.steps) ∙ c.loop-atom.invariant.all in
    omega (arith, c.loop-atom.invariant.counted, room_for c.args.self.now c.loop-atom.yielded c.in-Some.atom (members_from c.next.new.self.set.now c.next.new.self.from) all)

-- one write at n, where the list is xs and then the old list from n on
written : (xs old list : List ℕ) (n a : ℕ) → length xs ≡ n → n < length old → list ≡ xs ++ drop n old → set list n a ≡ (xs ++ a ∷ []) ++ drop (n + 1) old
written xs old list n a e h is =
    ap (λ (ys : List ℕ). set ys n a) (is ∙ ap (λ (ys : List ℕ). xs ++ ys) (drop_more old n 0 h))
    ∙ set_at xs (get_or old n 0) (drop (n + 1) old) a n e ∙ sym (append_assoc xs (a ∷ []) (drop (n + 1) old))

pub loop-atom-preserved : goal.loop-atom-preserved
loop-atom-preserved c =
    let s = c.args.self.now in
    let a = c.in-Some.atom in
    let n = c.loop-atom.count in
    let before = c.loop-atom.yielded in
    let old = c.args.list.now in
    let all = ap (λ (ys : List ℕ). before ++ ys) (sym c.in-Some.ensures.steps) ∙ c.loop-atom.invariant.all in
    let room : n < length old = omega (arith, c.told-list, c.loop-atom.invariant.counted, room_for s before a (members_from c.next.new.self.set.now c.next.new.self.from) all) in
    record {
      all = append_assoc before (a ∷ []) (members_from c.next.new.self.set.now c.next.new.self.from) ∙ all;
      counted = omega (arith, c.loop-atom.invariant.counted, length_push before a);
      written = ap (λ (x : ℕ). set c.loop-atom.list n x) c.from.ensures
          ∙ written before old c.loop-atom.list n a (sym c.loop-atom.invariant.counted) room c.loop-atom.invariant.written;
    }

pub returns-clause-rising : goal.returns-clause-rising
returns-clause-rising c = members_rising c.args.self.now
