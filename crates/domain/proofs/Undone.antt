-- A move can be taken back: the gap, now where the piece was, goes the other way. Assumes nothing.
use Rattle.std.proofs.Common.{◌≡◌, ℕ, zero, suc, ◌+◌, ◌-◌, ◌<◌, Bool, true, false, cond, not, eqb, ltb, List, length, get_or, take, set, is_some as option_is_some, Some, None, Option, sym, refl, ap, ◌∙◌, subst, ap₂, ⊎_elim, arith, lit<}
use Rattle.std.proofs.ByRecursion.{has_get_or}
use Rattle.std.proofs.lemmas.List.{length-set, length-take-le, get_or-take, get_or-set_same, get_or-set_other, set-set, set_comm, set-get_or}
use Rattle.std.proofs.lemmas.Bool.{cond-true, ltb-true, lt-ltb, eqb-true, eq-eqb, ne_eqb, not-true, not-false, not_from_true, not_from_false, cases_eq, cases_lt, false≢true}
use Rattle.domain.specs.Model.{among}
use Rattle.domain.specs.Moves.{direction_of, turned, opposite_of, neighbour, destination, traded, shifted, slid, slides}
use Rattle.domain.specs.Puzzle.{after, Undoes}
use Rattle.domain.specs.PuzzleLaws.{same_board, after_cells, no_direction}
use Rattle.domain.specs.Slides.{gap_below, destination_inside, Inside}
use Rattle.domain.specs.Square.{piece_at, count_of, EachOnce, gap, row, column}
use Rattle.domain.specs.declared.puzzle.Direction.{Direction}
use Rattle.domain.specs.declared.puzzle.Direction.TheVariants.{Up, Down, Left, Right}
use Rattle.domain.proofs.Among.{decides_among}
use Rattle.domain.proofs.Fresh.{twice}
use Rattle.domain.proofs.Leading.{leading_is, leading_passes, leading_stops}

if_some : (b : Bool) (x d : ℕ) → cond b (Some x) None ≡ Some d → (b ≡ true) × (x ≡ d)
if_some true x d e = (refl, cc)
if_some false x d e = let z : ◌≡◌ {A = ℕ} 0 1 = cc in absurd (omega arith)

-- the cell is the neighbour of its neighbour, the other way
neighbour_back : (c : ℕ) (w : Direction) (d : ℕ) → c < 9 → neighbour c w ≡ Some d → (neighbour d (turned w) ≡ Some c) × (d ≡ c → ⊥)
neighbour_back c Up d h e =
    let p = if_some (ltb 0 (row c)) (c - 3) d e in
    let f = ltb-true 0 (row c) p.0 in
    let g : d + 3 ≡ c = omega arith in
    (cond-true (ltb (row d) 2) (Some (d + 3)) None (lt-ltb (row d) 2 (omega arith)) ∙ ap {B = Option ℕ} Some g, λ q. omega arith)
neighbour_back c Down d h e =
    let p = if_some (ltb (row c) 2) (c + 3) d e in
    let f = ltb-true (row c) 2 p.0 in
    let g : d - 3 ≡ c = omega arith in
    (cond-true (ltb 0 (row d)) (Some (d - 3)) None (lt-ltb 0 (row d) (omega arith)) ∙ ap {B = Option ℕ} Some g, λ q. omega arith)
neighbour_back c Left d h e =
    let p = if_some (ltb 0 (column c)) (c - 1) d e in
    let f = ltb-true 0 (column c) p.0 in
    let g : d + 1 ≡ c = omega arith in
    (cond-true (ltb (column d) 2) (Some (d + 1)) None (lt-ltb (column d) 2 (omega arith)) ∙ ap {B = Option ℕ} Some g, λ q. omega arith)
neighbour_back c Right d h e =
    let p = if_some (ltb (column c) 2) (c + 1) d e in
    let f = ltb-true (column c) 2 p.0 in
    let g : d - 1 ≡ c = omega arith in
    (cond-true (ltb 0 (column d)) (Some (d - 1)) None (lt-ltb 0 (column d) (omega arith)) ∙ ap {B = Option ℕ} Some g, λ q. omega arith)

direction_back : (a : ℕ) (w : Direction) → direction_of a ≡ Some w → direction_of (opposite_of a) ≡ Some (turned w)
direction_back zero w e = let q : Up ≡ w = cc in ap {B = Option Direction} (λ v. Some (turned v)) q
direction_back (suc zero) w e = let q : Down ≡ w = cc in ap {B = Option Direction} (λ v. Some (turned v)) q
direction_back (suc (suc zero)) w e = let q : Left ≡ w = cc in ap {B = Option Direction} (λ v. Some (turned v)) q
direction_back (suc (suc (suc zero))) w e = let q : Right ≡ w = cc in ap {B = Option Direction} (λ v. Some (turned v)) q
direction_back (suc (suc (suc (suc a)))) w e =
    let f = no_direction (suc (suc (suc (suc a)))) (omega arith) in
    let z : ◌≡◌ {A = ℕ} 0 1 = cc in
    absurd (omega arith)

-- the gap is in its cell, and in no other
gap_holds : (cells : List ℕ) → length cells ≡ 9 → EachOnce cells → piece_at cells (gap cells) ≡ 0
unfolding gap
gap_holds cells nine once =
    eqb-true _ 0 (not-false _ (leading_stops (λ x. not (eqb x 0)) cells 0 (omega (arith, gap_below cells nine once))))

gap_alone : (cells : List ℕ) → length cells ≡ 9 → EachOnce cells → (k : ℕ) → k < 9 → (k ≡ gap cells → ⊥) → piece_at cells k ≡ 0 → ⊥
unfolding gap
gap_alone cells nine once k h ne e =
    let g = gap cells in
    let here = gap_holds cells nine once in
    ⊎_elim
    (λ l. let f = leading_passes (λ x. not (eqb x 0)) cells k 0 l in false≢true (sym (not-true _ f) ∙ eq-eqb (piece_at cells k) 0 e))
    (λ l.
    let inside : g < length (take k cells) = omega (arith, length-take-le k cells (omega arith)) in
    let seen = (decides_among (take k cells) (get_or (take k cells) g 0)).1 (has_get_or (take k cells) g 0 inside) in
    let same : get_or (take k cells) g 0 ≡ piece_at cells k = get_or-take k cells g 0 (omega arith) ∙ here ∙ sym e in
    omega (
      arith,
      twice cells k (omega arith) (ap (among (take k cells)) (sym same) ∙ seen),
      ap (λ (p : ℕ). count_of p cells) e,
      once 0 (lit< tt),
    ))
    (cases_lt k g)

-- two cells exchanged hold each other's pieces, and the others their own
module _ (cells : List ℕ) (i j : ℕ) (here : i < length cells) (there : j < length cells) (apart : j ≡ i → ⊥) where
  traded_first : piece_at (traded cells i j) i ≡ piece_at cells j
  traded_first =
      get_or-set_other (set cells i (piece_at cells j)) j i (piece_at cells i) 0 (λ e. apart (sym e)) ∙ get_or-set_same cells i (piece_at cells j) 0 here

  traded_second : piece_at (traded cells i j) j ≡ piece_at cells i
  traded_second = get_or-set_same (set cells i (piece_at cells j)) j (piece_at cells i) 0 (omega (arith, length-set cells i (piece_at cells j)))

  traded_other : (k : ℕ) → (k ≡ i → ⊥) → (k ≡ j → ⊥) → piece_at (traded cells i j) k ≡ piece_at cells k
  traded_other k p q = get_or-set_other (set cells i (piece_at cells j)) j k (piece_at cells i) 0 q ∙ get_or-set_other cells i k (piece_at cells j) 0 p

  -- exchanged twice, they are as they were
  traded_back : traded (traded cells i j) j i ≡ cells
  traded_back =
      let x = piece_at cells i in
      let y = piece_at cells j in
      let zs = traded cells i j in
      ap₂ (λ (a b : ℕ). set (set zs j a) i b) traded_first traded_second
      ∙ ap (λ (xs : List ℕ). set xs i x) (set-set (set cells i y) j x y)
      ∙ set_comm (set cells i y) j i y x apart
      ∙ ap (λ (xs : List ℕ). set xs j y) (set-set cells i y x ∙ set-get_or cells i 0)
      ∙ set-get_or cells j 0

gap_is : (xs : List ℕ) (m : ℕ) → m < length xs → ((k : ℕ) → k < m → piece_at xs k ≡ 0 → ⊥) → piece_at xs m ≡ 0 → m ≡ gap xs
unfolding gap
gap_is xs m h before here =
    leading_is (λ x. not (eqb x 0)) xs m 0 (omega arith) (λ k l. not_from_false _ (ne_eqb (piece_at xs k) 0 (before k l)))
    (λ _. not_from_true _ (eq-eqb (piece_at xs m) 0 here))

-- the gap is where it went
gap_traded : (cells : List ℕ) → length cells ≡ 9 → EachOnce cells → (d : ℕ) → d < 9 → (d ≡ gap cells → ⊥) → d ≡ gap (traded cells (gap cells) d)
gap_traded cells nine once d h apart =
    let g = gap cells in
    let low = gap_below cells nine once in
    let here : g < length cells = omega arith in
    let there : d < length cells = omega arith in
    gap_is (traded cells g d) d
    (omega (arith, length-set (set cells g (piece_at cells d)) d (piece_at cells g), length-set cells g (piece_at cells d)))
    (λ k l e. ⊎_elim
    (λ q. gap_alone cells nine once d h apart (sym (traded_first cells g d here there apart) ∙ ap (piece_at (traded cells g d)) (sym q) ∙ e))
    (λ q. gap_alone cells nine once k (omega arith) q (sym (traded_other cells g d here there apart k q (λ f. omega arith)) ∙ e))
    (cases_eq k g))
    (traded_second cells g d here there apart ∙ gap_holds cells nine once)

is_some : (o : Option ℕ) → option_is_some o ≡ true → (d : ℕ) × (o ≡ Some d)
is_some (Some d) e = (d, refl)
is_some None e = absurd (false≢true e)

way_of : (c d : ℕ) (o : Option Direction) → elim o [ Some w ↦ neighbour c w | None ↦ None ] ≡ Some d → (w : Direction) × (o ≡ Some w) × (neighbour c w ≡ Some d)
way_of c d (Some w) e = (w, refl, e)
way_of c d None e = let z : ◌≡◌ {A = ℕ} 0 1 = cc in absurd (omega arith)

-- on the cells: the other way leads from where the gap went to where it was
back : (cells : List ℕ) → length cells ≡ 9 → EachOnce cells → (a d : ℕ) → destination (gap cells) a ≡ Some d
    → (destination (gap (slid cells a)) (opposite_of a) ≡ Some (gap cells)) × (slid (slid cells a) (opposite_of a) ≡ cells)
back cells nine once a d e =
    let g = gap cells in
    let b = opposite_of a in
    let low = gap_below cells nine once in
    let w = way_of g d (direction_of a) e in
    let round = neighbour_back g w.0 d low w.2 in
    let inside : d < 9 = subst Inside e (destination_inside g a low) in
    let moved : slid cells a ≡ traded cells g d = ap (shifted cells) e in
    let now_at : gap (slid cells a) ≡ d = ap gap moved ∙ sym (gap_traded cells nine once d inside round.1) in
    let home : destination (gap (slid cells a)) b ≡ Some g =
    ap (λ (c : ℕ). destination c b) now_at
    ∙ ap (λ (o : Option Direction). elim o [ Some v ↦ neighbour d v | None ↦ None ]) (direction_back a w.0 w.1) ∙ round.0 in (
      home,
      ap (shifted (slid cells a)) home ∙ ap₂ (λ (xs : List ℕ) (i : ℕ). traded xs i g) moved now_at
          ∙ traded_back cells g d (omega arith) (omega arith) round.1,
    )

pub undoes : (a : ℕ) → Undoes a (opposite_of a)
undoes a s e =
    let b = opposite_of a in
    let d = is_some (destination (gap s.cells) a) e in
    let told = back s.cells s.nine s.once a d.0 d.1 in
    let same = after_cells s a in (
      ap (λ (xs : List ℕ). slides xs b) same ∙ ap (λ (o : Option ℕ). option_is_some o) told.0,
      same_board (after (after s a) b) s (after_cells (after s a) b ∙ ap (λ (xs : List ℕ). slid xs b) same ∙ told.1),
    )
