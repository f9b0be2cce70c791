-- The order of the lines inside a table does not matter. Assumes nothing.
use Rattle.std.proofs.Common.{◌≡◌, ℕ, ◌+◌, ◌<◌, ◌≤◌, List, [], ◌∷◌, ◌++◌, length, Some, None, Ok, Err, Option, Result, sym, refl, ap, ◌∙◌, subst, arith}
use Rattle.std.specs.Str.{bytes_eq}
use Rattle.domain.specs.declared.strips.Action.{Action}
use Rattle.problem.specs.Form.{and_then, good_by}
use Rattle.problem.specs.Order.{Free, behind, behind_all, Reordered, OrderFree}
use Rattle.problem.specs.Order.Reordered.{same, exchanged}
use Rattle.problem.specs.Problem.{parsed, of_problem, accepted, most_actions, blank_actions, text_problem}
use Rattle.problem.specs.Reader.{Step, names_of, start_of, with_actions, with_features, with_rules, valued, step, step_by}
use Rattle.problem.specs.State.{Sound}
use Rattle.problem.specs.Tables.{raised_to, other_kind, both_named, feature_added, rule_added}
use Rattle.problem.specs.Text.{Reading, placed, read_lines, read_text}
use Rattle.problem.specs.declared.fault.LineFault.{LineFault}
use Rattle.problem.specs.declared.fault.Table.{Table}
use Rattle.problem.specs.declared.fault.Table.TheVariants.{Atoms, Actions, Features, Rules}
use Rattle.problem.specs.declared.reader.Reader.{Reader}
use Rattle.problem.specs.declared.reader.Wanted.{Wanted}
use Rattle.problem.specs.declared.reader.Wanted.TheVariants.{TheNames, Values, Nothing}
use Rattle.problem.specs.declared.tables.ActionRow.{ActionRow}
use Rattle.problem.proofs.Accounted.{valued_wanted, closed_wanted, good_reading}
use Rattle.problem.proofs.Inverse.{cond_ok}
use Rattle.problem.proofs.Moving.{filling}
use Rattle.problem.proofs.Rebuilt.{action_there, feature_there, rule_there}
use Rattle.problem.proofs.Shapes.{Shaped, shaped_start, shaped_step, features_free, rules_free}
use Rattle.problem.proofs.Sounds.{action_step, feature_step, rule_step, from_ok, sound_start, sound_step}
use Rattle.problem.proofs.Updates.{action_added_both, feature_added_both, rule_added_both}

-- two good lines the other way round: the same rows, and the same state in the end
pub record Swapped (s : Reader) (table : Table) (n k : ℕ) (l m : List ℕ) (one two : Step) : Type 0 where
  pub first : Reader
  pub ahead : valued s table n m ≡ Ok (first, two.1)
  pub back : valued first table k l ≡ Ok (two.0, one.1)

same_step : (k m : Step) → ◌≡◌ {A = Result Step LineFault} (Ok k) (Ok m) → k ≡ m
same_step k m h = cc

swap_actions : (s : Reader) (n k : ℕ) (l m : List ℕ) (one two : Step) → valued s Actions n l ≡ Ok one → valued one.0 Actions k m ≡ Ok two → Swapped s Actions n k l m one two
swap_actions s n k l m one two g h =
    let a = action_step s n l one g in
    let one_is = same_step _ one a.next in
    let b = action_step _ k m two (subst (λ t. valued t.0 Actions k m ≡ Ok two) (sym one_is) h) in
    let two_is = same_step _ two b.next in
    let first = with_actions s (raised_to s.actions b.row.action) in
    let counts : raised_to (raised_to s.actions b.row.action) a.row.action ≡ raised_to (raised_to s.actions a.row.action) b.row.action = omega arith in
    record {
      first = first;
      ahead = action_there s k n m b.columns b.row b.form b.line ∙ ap (λ t. Ok (first, t.1)) two_is;
      back =
          action_there first n k l a.columns a.row a.form a.line
          ∙ ap (λ c. Ok (with_actions s c, Some a.row)) counts
          ∙ (λ i. Ok ((two_is i).0, (one_is i).1));
    }

swap_features : (s : Reader) (n k : ℕ) (l m : List ℕ) (one two : Step) → Shaped s → valued s Features n l ≡ Ok one → valued one.0 Features k m ≡ Ok two → Swapped s Features n k l m one two
swap_features s n k l m one two shaped g h =
    let a = feature_step s n l one g in
    let one_is = same_step _ one a.next in
    let b = feature_step _ k m two (subst (λ t. valued t.0 Features k m ≡ Ok two) (sym one_is) h) in
    let two_is = same_step _ two b.next in
    let qa : a.row.feature ≡ a.columns.0 = ap (λ r. r.feature) a.line.is in
    let qb : b.row.feature ≡ b.columns.0 = ap (λ r. r.feature) b.line.is in
    let free =
    features_free s.features shaped.of_features a.row b.row (omega (arith, qa, a.line.feature_below))
    (ap (λ f. other_kind s.features f a.row.kind) qa ∙ a.line.first_kind)
    (ap (λ f. other_kind (feature_added s.features a.row) f b.row.kind) qb ∙ b.line.first_kind) in
    let first = with_features s (feature_added s.features b.row) in
    record {
      first = first;
      ahead =
          feature_there s _ k n m b.columns b.row b.form b.line (ap (λ f. other_kind s.features f b.row.kind) (sym qb) ∙ free.0)
          ∙ ap (λ t. Ok (first, t.1)) two_is;
      back =
          feature_there first s.features n k l a.columns a.row a.form a.line
          (ap (λ f. other_kind (feature_added s.features b.row) f a.row.kind) (sym qa) ∙ free.1)
          ∙ ap (λ t. Ok (with_features s t, None)) (sym (feature_added_both s.features a.row b.row free.2))
          ∙ (λ i. Ok ((two_is i).0, (one_is i).1));
    }

swap_rules : (s : Reader) (n k : ℕ) (l m : List ℕ) (one two : Step) → Sound s → Shaped s → valued s Rules n l ≡ Ok one → valued one.0 Rules k m ≡ Ok two → Swapped s Rules n k l m one two
swap_rules s n k l m one two sound shaped g h =
    let a = rule_step s n l one g in
    let one_is = same_step _ one a.next in
    let b = rule_step _ k m two (subst (λ t. valued t.0 Rules k m ≡ Ok two) (sym one_is) h) in
    let two_is = same_step _ two b.next in
    let ra : a.row.rule ≡ a.columns.0 = ap (λ r. r.rule) a.line.is in
    let fa : a.row.feature ≡ a.columns.1 = ap (λ r. r.feature) a.line.is in
    let rb : b.row.rule ≡ b.columns.0 = ap (λ r. r.rule) b.line.is in
    let fb : b.row.feature ≡ b.columns.1 = ap (λ r. r.feature) b.line.is in
    let free =
    rules_free s.rules shaped.of_rules a.row b.row (omega (arith, ra, a.line.rule_below)) (omega (arith, rb, b.line.rule_below)) (omega (arith, fa, a.line.feature_below, sound.few_features))
    ((λ i. both_named s.rules (ra i) (fa i)) ∙ a.line.once)
    ((λ i. both_named (rule_added s.rules a.row) (rb i) (fb i)) ∙ b.line.once) in
    let first = with_rules s (rule_added s.rules b.row) in
    record {
      first = first;
      ahead =
          rule_there s _ k n m b.columns b.row b.form b.line ((λ i. both_named s.rules (sym rb i) (sym fb i)) ∙ free.0)
          ∙ ap (λ t. Ok (first, t.1)) two_is;
      back =
          rule_there first s.rules n k l a.columns a.row a.form a.line
          ((λ i. both_named (rule_added s.rules b.row) (sym ra i) (sym fa i)) ∙ free.1)
          ∙ ap (λ t. Ok (with_rules s t, None)) (sym (rule_added_both s.rules a.row b.row free.2))
          ∙ (λ i. Ok ((two_is i).0, (one_is i).1));
    }

swap : (s : Reader) (table : Table) (n k : ℕ) (l m : List ℕ) (one two : Step) → Free table → Sound s → Shaped s → valued s table n l ≡ Ok one → valued one.0 table k m ≡ Ok two → Swapped s table n k l m one two
swap s Atoms n k l m one two free sound shaped g h = absurd free
swap s Actions n k l m one two free sound shaped g h = swap_actions s n k l m one two g h
swap s Features n k l m one two free sound shaped g h = swap_features s n k l m one two shaped g h
swap s Rules n k l m one two free sound shaped g h = swap_rules s n k l m one two sound shaped g h

placed_both : (acts : List Action) (q r : Option ActionRow) → placed (placed acts q) r ≡ placed (placed acts r) q
placed_both acts None None = refl
placed_both acts None (Some r) = refl
placed_both acts (Some q) None = refl
placed_both acts (Some q) (Some r) = action_added_both acts q r

-- one line of a good reading, and one more line in front of the rest
line_ok : (n : ℕ) (r : Reading) (l : List ℕ) (ls : List (List ℕ)) (k : Reading) → read_lines n r (l ∷ ls) ≡ Ok k
    → (t : Step) × (step r.0 n l ≡ Ok t) × (read_lines (n + 1) (t.0, placed r.1 t.1) ls ≡ Ok k)
unfolding read_lines
line_ok n r l ls k h = by_step (step r.0 n l) h
  where
    by_step : (m : Result Step LineFault) → and_then (good_by (λ t. (t.0, placed r.1 t.1)) m) (λ next. read_lines (n + 1) next ls) ≡ Ok k
        → (t : Step) × (m ≡ Ok t) × (read_lines (n + 1) (t.0, placed r.1 t.1) ls ≡ Ok k)
    by_step (Ok t) g = (t, refl, g)
    by_step (Err e) g = absurd (let z : ◌≡◌ {A = ℕ} 0 1 = cc in omega arith)

line_on : (n : ℕ) (r : Reading) (l : List ℕ) (ls : List (List ℕ)) (t : Step) → step r.0 n l ≡ Ok t → read_lines n r (l ∷ ls) ≡ read_lines (n + 1) (t.0, placed r.1 t.1) ls
unfolding read_lines
line_on n r l ls t e = ap (λ m. and_then (good_by (λ t. (t.0, placed r.1 t.1)) m) (λ next. read_lines (n + 1) next ls)) e

swap_lines : (n : ℕ) (r : Reading) (l m : List ℕ) (rest : List (List ℕ)) (table : Table) (k : Reading) → Free table → r.0.wanted ≡ Values table → Sound r.0 → Shaped r.0 → 0 < length l → 0 < length m
    → read_lines n r (l ∷ m ∷ rest) ≡ Ok k → read_lines n r (m ∷ l ∷ rest) ≡ Ok k
swap_lines n r l m rest table k free w sound shaped some some' h =
    let one = line_ok n r l (m ∷ rest) k h in
    let two = line_ok (n + 1) (one.0.0, placed r.1 one.0.1) m rest k one.2 in
    let g = filling r.0 table n l w some ∙ one.1 in
    let w₁ = valued_wanted r.0 table n l one.0 g ∙ w in
    let back = swap r.0 table n (n + 1) l m one.0 two.0 free sound shaped g (filling one.0.0 table (n + 1) m w₁ some' ∙ two.1) in
    let w₂ = valued_wanted r.0 table n m (back.first, two.0.1) back.ahead ∙ w in
    line_on n r m (l ∷ rest) (back.first, two.0.1) (sym (filling r.0 table n m w some') ∙ back.ahead)
    ∙ line_on (n + 1) (back.first, placed r.1 two.0.1) l rest (two.0.0, one.0.1) (sym (filling back.first table (n + 1) l w₂ some) ∙ back.back)
    ∙ ap (λ acts. read_lines (n + 1 + 1) (two.0.0, acts) rest) (placed_both r.1 two.0.1 one.0.1)
    ∙ two.2

-- what is wanted after a good line
wanted_by : (w : Wanted) (s : Reader) (n : ℕ) (l : List ℕ) (m : Step) → s.wanted ≡ w → step_by w s n l ≡ Ok m → m.0.wanted ≡ behind w l
wanted_by (TheNames table) s n l m e g = sym (ap (λ t. t.wanted) (from_ok _ m (cond_ok (bytes_eq l (names_of table)) _ _ m g).1))
wanted_by (Values table) s n [] m e g = closed_wanted s table n m g
wanted_by (Values table) s n (b ∷ l) m e g = valued_wanted s table n (b ∷ l) m g ∙ e
wanted_by Nothing s n l m e g = absurd (let z : ◌≡◌ {A = ℕ} 0 1 = cc in omega arith)

wanted_behind : (s : Reader) (n : ℕ) (l : List ℕ) (m : Step) → step s n l ≡ Ok m → m.0.wanted ≡ behind s.wanted l
unfolding step
wanted_behind s n l m g = wanted_by s.wanted s n l m refl g

swap_behind : (front : List (List ℕ)) (n : ℕ) (r : Reading) (l m : List ℕ) (rest : List (List ℕ)) (table : Table) (k : Reading) → Free table → behind_all r.0.wanted front ≡ Values table
    → Sound r.0 → Shaped r.0 → 0 < length l → 0 < length m
    → read_lines n r (front ++ l ∷ m ∷ rest) ≡ Ok k → read_lines n r (front ++ m ∷ l ∷ rest) ≡ Ok k
swap_behind [] n r l m rest table k free w sound shaped some some' h = swap_lines n r l m rest table k free w sound shaped some some' h
swap_behind (f ∷ front) n r l m rest table k free w sound shaped some some' h =
    let one = line_ok n r f (front ++ l ∷ m ∷ rest) k h in
    let t = one.0 in
    line_on n r f (front ++ m ∷ l ∷ rest) t one.1
    ∙ swap_behind front (n + 1) (t.0, placed r.1 t.1) l m rest table k free
    (ap (λ v. behind_all v front) (wanted_behind r.0 n f t one.1) ∙ w)
    (sound_step r.0 n f t sound one.1) (shaped_step r.0 n f t shaped one.1) some some' one.2

reordered_reading : (limit : ℕ) (acts : List Action) (k : Reading) → limit ≤ 1024 → {ls ms : List (List ℕ)} → Reordered ls ms → read_lines 1 (start_of limit, acts) ls ≡ Ok k → read_lines 1 (start_of limit, acts) ms ≡ Ok k
reordered_reading limit acts k few same h = h
reordered_reading limit acts k few (exchanged front l m rest table free w some some' more) h =
    reordered_reading limit acts k few more (swap_behind front 1 (start_of limit, acts) l m rest table k free w (sound_start limit few) (shaped_start limit) some some' h)

pub order_free : OrderFree
unfolding text_problem read_text
order_free places bs cs p moved h =
    let limit = most_actions places in
    let good = good_reading places bs p h in
    let again = reordered_reading limit (blank_actions limit) good.0 (omega arith) moved good.1 in
    ap (λ m. and_then (of_problem m) λ r. accepted (parsed r)) again ∙ good.2
