-- The blocks that take loops away keep to the rules, and the levels and values that are left have the labels that they may have.
use Rattle.std.specs.Prelude.{◌≡◌, ◌<◌, ◌≤◌, ℕ, zero, suc, ◌+◌, ◌-◌, Bool, true, false, List, [], ◌∷◌, ◌++◌, length, take, get_or, refl}
use Rattle.std.proofs.Common.{arith, sym, ◌∙◌, ap, subst, append_assoc, length-append, length-take-le, get_or-take, inl}
use Rattle.stream_model.specs.declared.labels.Attr.TheVariants.{Coordinate, Value}
use Rattle.stream_model.specs.declared.labels.Label.{Label}
use Rattle.graph.specs.declared.graphs.Kind.TheVariants as kind
use Rattle.custard_lower.specs.declared.drafts.Made.{Made}
use Rattle.custard_lower.specs.declared.trees.TermTrees.{TermTrees}
use Rattle.label_rules.specs.declared.plans.Plan.{Plan}
use Rattle.custard_lower.specs.Drafts.{outputs_of}
use Rattle.label_rules.specs.Labels.{no_label}
use Rattle.label_rules.specs.Plans.{left_marks, free_marks}
use Rattle.label_rules.specs.Holding.{Rules}
use Rattle.custard_lower.specs.Reductions.{Levels, reduced_tree_label, level_at, reduce, reduced}
use Rattle.custard_lower.proofs.draft.Emitted.{Stands, OneStands, Sound, Extends, extends-more, stands-on, all-stand-new, sound-emit, holds-snoc}
use Rattle.custard_lower.proofs.term.TermAllowed.{level_labels, SumAllowed, SumsAllowed}

-- each mark is of a loop on the left, or of one that isn't
pub marks-counted : (marks : List Bool) → length marks ≡ left_marks marks + free_marks marks
marks-counted [] = refl
marks-counted (true ∷ marks) = let r = marks-counted marks in omega (arith, r)
marks-counted (false ∷ marks) = let r = marks-counted marks in omega (arith, r)

-- So many levels are left, whose coordinates have one of the labels of their level, and the values one of theirs.
pub record LevelsStand (rules : Rules) (coordinates : ℕ → List Label) (values : List Label) (n : ℕ) (l : Levels) : Type 0 where
  pub sound : Sound rules l.made
  pub root : Stands l.made 0 no_label
  pub count : length l.coordinates ≡ n
  pub coordinates_stand : (k : ℕ) → k < n → OneStands l.made (get_or l.coordinates k 0) (coordinates (suc k))
  pub values_stand : OneStands l.made l.values values

module _ (rules : Rules) (trees : TermTrees) (t : Plan) (coordinates : ℕ → ℕ → List Label) (values : ℕ → List Label) where
  -- where g loops are gone
  abbrev Left : ℕ → ℕ → Levels → Type 0
  Left g n l = LevelsStand rules (coordinates g) (values g) n l

  -- ---- one loop is taken away

  module _ (before after : List Bool) (may : SumAllowed rules trees t coordinates values before after) (l : Levels)
      (x : Left (free_marks after) (length before + 1 + left_marks after) l) where
    abbrev g : ℕ
    g = free_marks after

    abbrev d : ℕ
    d = length before

    count : length l.coordinates ≡ d + 1 + left_marks after
    count = x.count

    taking : length (take d l.coordinates) ≡ d
    taking = length-take-le d l.coordinates (let c = count in omega (arith, c))

    module _ (b : Made) where
      abbrev made' : List Made
      made' = l.made ++ b ∷ []

      on : Extends l.made made'
      on = extends-more l.made (b ∷ [])

      -- an output with coordinates of a level, where one loop more is gone
      abbrev Level : ℕ → ℕ → Type 0
      Level w k = OneStands made' w (coordinates (suc g) (suc k))

      -- the levels before the loop stay
      before_stand : (k : ℕ) → k < d → Level (get_or (take d l.coordinates) k 0) k
      before_stand k i =
          let y = x.coordinates_stand k (omega (arith, i)) in
          subst (λ (w : ℕ). Level w k) (sym (get_or-take d l.coordinates k 0 i))
          (y.0, stands-on l.made made' _ _ on y.1, may.stay k y.0 i y.2)

      one_more : (w : ℕ) → Level w d → (k : ℕ) → k < suc d → Level (get_or (take d l.coordinates ++ w ∷ []) k 0) k
      one_more w y = holds-snoc Level (take d l.coordinates) w d taking before_stand y

      two_more : (w v : ℕ) → Level w d → Level v (suc d) → (k : ℕ) → k < suc (suc d)
          → Level (get_or (take d l.coordinates ++ w ∷ v ∷ []) k 0) k
      two_more w v y z =
          let first = take d l.coordinates ++ w ∷ [] in
          let long : length first ≡ suc d = let a = length-append (take d l.coordinates) (w ∷ []) in omega (arith, a, taking) in
          subst (λ (ws : List ℕ). (k : ℕ) → k < suc (suc d) → Level (get_or ws k 0) k) (append_assoc (take d l.coordinates) (w ∷ []) (v ∷ []))
          (holds-snoc Level first v (suc d) long (one_more w y) z)

      root_on : Stands made' 0 no_label
      root_on = stands-on l.made made' _ _ on x.root

    -- the root, or a level
    level_on : (j : ℕ) → j ≤ d + 1 + left_marks after → OneStands l.made (level_at l.coordinates j) (level_labels rules trees t (coordinates g) j)
    level_on zero i = (no_label, x.root, inl refl)
    level_on (suc k) i = x.coordinates_stand k (omega (arith, i))

    -- ---- no level comes after it

    abbrev scalar_at : ℕ → Made
    scalar_at n = record {
      kind = kind.SumScalar;
      ins = level_at l.coordinates n ∷ l.values ∷ [];
      labels = reduced_tree_label trees (suc g) n Value ∷ [];
    }

    scalar_stands : left_marks after ≡ 0
        → Left (suc g) (d + left_marks after) (record {
          made = l.made ++ scalar_at d ∷ [];
          coordinates = take d l.coordinates;
          values = outputs_of l.made;
        })
    scalar_stands none =
        let b = scalar_at d in
        let y = level_on d (omega arith) in
        let v = x.values_stand in
        record {
          sound = sound-emit rules l.made b (y.0 ∷ v.0 ∷ []) x.sound (y.1, (v.1, tt)) (may.scalar y.0 v.0 none y.2 v.2);
          root = root_on b;
          count = let k = taking in omega (arith, k, none);
          coordinates_stand = λ k i. before_stand b k (omega (arith, i, none));
          values_stand = (_, (all-stand-new l.made b).0, may.value d (omega (arith, none)));
        }

    -- ---- one level comes after it

    abbrev vector_at : ℕ → Made
    vector_at n = record {
      kind = kind.SumVector;
      ins = level_at l.coordinates (suc n) ∷ l.values ∷ [];
      labels = reduced_tree_label trees (suc g) n Coordinate ∷ reduced_tree_label trees (suc g) n Value ∷ [];
    }

    vector_stands : left_marks after ≡ 1
        → Left (suc g) (d + left_marks after) (record {
          made = l.made ++ vector_at (suc d) ∷ [];
          coordinates = take d l.coordinates ++ outputs_of l.made ∷ [];
          values = suc (outputs_of l.made);
        })
    vector_stands one =
        let b = vector_at (suc d) in
        let w = outputs_of l.made in
        let y = x.coordinates_stand (suc d) (omega (arith, one)) in
        let v = x.values_stand in
        let new = all-stand-new l.made b in
        let next : w + 1 ≡ suc w = omega arith in
        record {
          sound = sound-emit rules l.made b (y.0 ∷ v.0 ∷ []) x.sound (y.1, (v.1, tt)) (may.vector y.0 v.0 one y.2 v.2);
          root = root_on b;
          count = let a = length-append (take d l.coordinates) (w ∷ []) in omega (arith, a, taking, one);
          coordinates_stand = λ k i. one_more b w (_, new.0, may.coordinate d (omega (arith, one)) (omega arith)) k (omega (arith, i, one));
          values_stand = (
            reduced_tree_label trees (suc g) (suc d) Value,
            subst (λ (u : ℕ). Stands (l.made ++ b ∷ []) u (reduced_tree_label trees (suc g) (suc d) Value)) next new.1.0,
            may.value (suc d) (omega (arith, one)),
          );
        }

    -- ---- two levels come after it

    abbrev matrix_between : ℕ → ℕ → Made
    matrix_between q n = record {
      kind = kind.SumMatrix;
      ins = level_at l.coordinates n ∷ level_at l.coordinates (suc n) ∷ l.values ∷ [];
      labels =
          reduced_tree_label trees (suc g) q Coordinate
          ∷ reduced_tree_label trees (suc g) n Coordinate
          ∷ reduced_tree_label trees (suc g) n Value
          ∷ [];
    }

    abbrev with_matrix : ℕ → ℕ → ℕ → Levels
    with_matrix k q n = record {
      made = l.made ++ matrix_between q n ∷ [];
      coordinates = take k l.coordinates ++ outputs_of l.made ∷ suc (outputs_of l.made) ∷ [];
      values = suc (suc (outputs_of l.made));
    }

    matrix_stands : left_marks after ≡ 2 → Left (suc g) (d + left_marks after) (with_matrix d (suc d) (suc (suc d)))
    matrix_stands two =
        let b = matrix_between (suc d) (suc (suc d)) in
        let w = outputs_of l.made in
        let y = x.coordinates_stand (suc d) (omega (arith, two)) in
        let z = x.coordinates_stand (suc (suc d)) (omega (arith, two)) in
        let v = x.values_stand in
        let new = all-stand-new l.made b in
        let next : w + 1 ≡ suc w = omega arith in
        let after_next : w + 1 + 1 ≡ suc (suc w) = omega arith in
        let second = reduced_tree_label trees (suc g) (suc (suc d)) Coordinate in
        let third = reduced_tree_label trees (suc g) (suc (suc d)) Value in
        record {
          sound =
              sound-emit rules l.made b (y.0 ∷ z.0 ∷ v.0 ∷ []) x.sound (y.1, (z.1, (v.1, tt)))
              (may.matrix y.0 z.0 v.0 two y.2 z.2 v.2);
          root = root_on b;
          count = let a = length-append (take d l.coordinates) (w ∷ suc w ∷ []) in omega (arith, a, taking, two);
          coordinates_stand =
              λ k i. two_more b w (suc w) (_, new.0, may.coordinate d (omega (arith, two)) (omega arith)) (
                second,
                subst (λ (u : ℕ). Stands (l.made ++ b ∷ []) u second) next new.1.0,
                may.coordinate (suc d) (omega (arith, two)) (omega arith),
              ) k (omega (arith, i, two));
          values_stand = (
            third,
            subst (λ (u : ℕ). Stands (l.made ++ b ∷ []) u third) after_next new.1.1.0,
            may.value (suc (suc d)) (omega (arith, two)),
          );
        }

    -- ---- the block of the kind that is asked for

    reduce_stands : (k : ℕ) → left_marks after ≡ k → Left (suc g) (d + left_marks after) (reduce trees g k l)
    reduce_stands zero none =
        let c = count in
        let n : d ≡ length l.coordinates - 1 = omega (arith, c, none) in
        subst (λ (n : ℕ). Left (suc g) (d + left_marks after) (record {
          made = l.made ++ scalar_at n ∷ [];
          coordinates = take n l.coordinates;
          values = outputs_of l.made;
        })) n
        (scalar_stands none)
    reduce_stands (suc zero) one =
        let c = count in
        let n : suc d ≡ length l.coordinates - 1 = omega (arith, c, one) in
        let k : d ≡ length l.coordinates - 2 = omega (arith, c, one) in
        subst (λ (n : ℕ). Left (suc g) (d + left_marks after) (record {
          made = l.made ++ vector_at n ∷ [];
          coordinates = take (length l.coordinates - 2) l.coordinates ++ outputs_of l.made ∷ [];
          values = suc (outputs_of l.made);
        })) n
        (subst (λ (k : ℕ). Left (suc g) (d + left_marks after) (record {
          made = l.made ++ vector_at (suc d) ∷ [];
          coordinates = take k l.coordinates ++ outputs_of l.made ∷ [];
          values = suc (outputs_of l.made);
        })) k
        (vector_stands one))
    reduce_stands (suc (suc zero)) two =
        let c = count in
        let n : suc (suc d) ≡ length l.coordinates - 1 = omega (arith, c, two) in
        let q : suc d ≡ length l.coordinates - 1 - 1 = omega (arith, c, two) in
        let k : d ≡ length l.coordinates - 3 = omega (arith, c, two) in
        subst (λ (n : ℕ). Left (suc g) (d + left_marks after) (with_matrix (length l.coordinates - 3) (length l.coordinates - 1 - 1) n)) n
        (subst (λ (q : ℕ). Left (suc g) (d + left_marks after) (with_matrix (length l.coordinates - 3) q (suc (suc d)))) q
        (subst (λ (k : ℕ). Left (suc g) (d + left_marks after) (with_matrix k (suc d) (suc (suc d)))) k (matrix_stands two)))
    reduce_stands (suc (suc (suc k))) more = let few = may.few in absurd (omega (arith, few, more))

    loop_away : Left (suc g) (d + left_marks after) (reduce trees g (left_marks after) l)
    loop_away = reduce_stands (left_marks after) refl

  -- ---- all of them are taken away

  -- the loops of a suffix of the term's loops have been passed
  reduced_stands : SumsAllowed rules trees t coordinates values → (before after : List Bool) (l : Levels) → t.on_left ≡ before ++ after
      → Left 0 (length t.on_left) l
      → Left (free_marks after) (length before + left_marks after) (reduced trees after l)
  reduced_stands may before [] l e x =
      let a = ap length e ∙ length-append before [] in
      subst (λ (n : ℕ). Left 0 n l) (omega (arith, a)) x
  reduced_stands may before (true ∷ after) l e x =
      let a = length-append before (true ∷ []) in
      subst (λ (n : ℕ). Left (free_marks after) n (reduced trees after l)) (omega (arith, a))
      (reduced_stands may (before ++ true ∷ []) after l (e ∙ sym (append_assoc before (true ∷ []) after)) x)
  reduced_stands may before (false ∷ after) l e x =
      let a = length-append before (false ∷ []) in
      let rest = reduced_stands may (before ++ false ∷ []) after l (e ∙ sym (append_assoc before (false ∷ []) after)) x in
      loop_away before after (may before after e) (reduced trees after l)
      (subst (λ (n : ℕ). Left (free_marks after) n (reduced trees after l)) (omega (arith, a)) rest)

  -- all loops of the term are levels first, and then those that are left
  pub reduced-stands : SumsAllowed rules trees t coordinates values → (l : Levels) → Left 0 (length t.on_left) l
      → Left (free_marks t.on_left) (left_marks t.on_left) (reduced trees t.on_left l)
  reduced-stands may l x =
      let e : 0 + left_marks t.on_left ≡ left_marks t.on_left = omega arith in
      subst (λ (n : ℕ). Left (free_marks t.on_left) n (reduced trees t.on_left l)) e (reduced_stands may [] t.on_left l refl x)
