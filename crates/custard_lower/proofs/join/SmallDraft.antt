-- How large the draft of a program can be: a bound for each part of the lowering, from the most loops, factors and terms.
use Rattle.std.specs.Prelude.{◌≡◌, ◌≤◌, ℕ, zero, suc, ◌+◌, ◌*◌, ◌-◌, Bool, true, false, cond, not, List, [], ◌∷◌, ◌++◌, length, drop, set, take, Option, Some, None, eqb, refl}
use Rattle.std.specs.List.{flat_map, list_all, range_with_len}
use mathlib.Core.List.{map}
use Rattle.std.proofs.Common.{arith, ap, length-append}
use Rattle.std.proofs.lemmas.Bool.{and_parts}
use Rattle.std.proofs.lemmas.List.{length-map, length-set}
use Rattle.std.proofs.lemmas.List.FromFn.{length-range_with_len}
use Rattle.sam_model.specs.declared.program.Term.{Term}
use Rattle.sam_model.specs.declared.program.Program.{Program}
use Rattle.sam_model.specs.Lists.{below}
use Rattle.sam_model.specs.Accepted.{term_fits}
use Rattle.sam_model.specs.Program.{accepted}
use Rattle.stream_model.specs.declared.labels.Label.{Label}
use Rattle.stream_model.specs.declared.labels.Attr.TheVariants.{Rank, Value}
use Rattle.stream_model.specs.declared.labels.Side.{Side}
use Rattle.stream_model.specs.declared.labels.Side.TheVariants.{Left, Right}
use Rattle.stream_model.specs.declared.labels.Tree.{Tree}
use Rattle.stream_model.specs.declared.labels.Tree.TheVariants.{Joined, Beside}
use Rattle.stream_model.proofs.Places.{accepted-terms}
use Rattle.stream_model.proofs.Depths.{filter-short}
use Rattle.custard_lower.specs.declared.drafts.Made.{Made}
use Rattle.custard_lower.specs.declared.trees.TermTrees.{TermTrees}
use Rattle.custard_lower.specs.declared.trees.TermTrees.TheVariants.{Own}
use Rattle.custard_lower.specs.declared.trees.PrunedTrees.{PrunedTrees}
use Rattle.custard_lower.specs.declared.trees.PrunedTrees.TheVariants.{OfTerm}
use Rattle.label_rules.specs.declared.plans.Plan.{Plan}
use Rattle.custard_lower.specs.Drafts.{labels_of, outputs_of}
use Rattle.label_rules.specs.Plans.{plan_of, asked, spared, has_loop, PlanIsSmall, left_marks, free_marks}
use Rattle.custard_lower.specs.Nests.{product_tree_label, Met, Nest, scan, intersect, repeat, first_met, met_with, all_met, scanned, level, nest}
use Rattle.custard_lower.specs.Values.{Valued, array, arrays, product, multiplied, constant, scaling, scaled, valued}
use Rattle.custard_lower.specs.Reductions.{Levels, sum_scalar, sum_vector, sum_matrix, drop_value, drop_fiber, reduce, reduced, without_values, without_fibers, emptied, pruned_below}
use Rattle.custard_lower.specs.Unions.{Part, Flank, Front, on_last, fill, mark, filled, flank, marked, payload, union, sum, left_values, right_values, joined_level, joined_levels, joined_sides}
use Rattle.custard_lower.specs.Lowering.{root, summed_levels, term_levels, level_writer, value_writer, with_writers, first_level_tree, part, with_term, with_terms, draft_of, program_draft}
use Rattle.custard_lower.specs.DraftGraph.{DraftIsSmall}
use Rattle.custard_lower.proofs.term.Nesting.{levels_counted}
use Rattle.label_rules.proofs.term.SmallPlans.{small-plan, few_terms}
use Rattle.custard_lower.proofs.draft.SmallGraphs.{read_count, read-number}

-- ---- the weight of a draft

-- a block, its outputs and its reads
abbrev pub weight_of : Made → ℕ
weight_of m = suc (length m.ins + length m.labels)

abbrev pub weight : List Made → ℕ
weight [] = 0
weight (m ∷ made) = weight_of m + weight made

pub weight-append : (xs ys : List Made) → weight (xs ++ ys) ≡ weight xs + weight ys
weight-append [] ys = omega arith
weight-append (m ∷ xs) ys = omega (arith, weight-append xs ys)

-- one block more
pub weight-emit : (made : List Made) (m : Made) → weight (made ++ m ∷ []) ≡ weight made + weight_of m
weight-emit made m = omega (arith, weight-append made (m ∷ []))

-- blocks of a weight each
pub weight-map : (f : ℕ → Made) (n : ℕ) → ((x : ℕ) → weight_of (f x) ≤ n) → (xs : List ℕ) → weight (map f xs) ≤ n * length xs
weight-map f n h [] = omega arith
weight-map f n h (x ∷ xs) = omega (arith, h x, weight-map f n h xs, times_more n (length xs))
  where
    times_more : (n k : ℕ) → n * suc k ≡ n + n * k
    times_more n k = grind arith

pub blocks-weigh : (made : List Made) → length made ≤ weight made
blocks-weigh [] = omega arith
blocks-weigh (m ∷ made) = omega (arith, blocks-weigh made)

pub outputs-weigh : (made : List Made) → outputs_of made ≤ weight made
outputs-weigh [] = omega arith
outputs-weigh (m ∷ made) = omega (arith, outputs-weigh made, length-append m.labels (labels_of made))

pub reads-weigh : (made : List Made) → read_count made ≤ weight made
reads-weigh [] = omega arith
reads-weigh (m ∷ made) = omega (arith, reads-weigh made, length-append m.ins (flat_map (λ m. m.ins) made))

-- ---- a term

short : {A : Type 0} (n : ℕ) (xs : List A) → length (take n xs) ≤ length xs
short zero xs = omega arith
short (suc n) [] = omega arith
short (suc n) (x ∷ xs) = omega (arith, short n xs)

rest-short : (fs : List ℕ) → length (drop 1 fs) ≤ length fs
rest-short [] = omega arith
rest-short (f ∷ fs) = omega arith

module _ (trees : TermTrees) (t : Plan) (small : PlanIsSmall t) where
  -- what is met so far weighs an intersecter of at most so many inputs and outputs
  met-weighs : (d : ℕ) (made : List Made) (met : Met) (w : ℕ) (fs : List ℕ)
      → length met.references ≡ length met.factors → length met.factors + length fs ≤ 8
      → weight (all_met trees t d made met w fs).made ≤ weight made + 20 * length fs
  met-weighs d made met w [] same few = omega arith
  met-weighs d made met w (f ∷ fs) same few =
      let factors = length-append met.factors (f ∷ []) in
      let next = met_with trees t met f (outputs_of made) in
      let m = intersect trees t d met f w in
      let references : length next.references ≡ suc (length met.factors) = length-range_with_len (suc (outputs_of made)) (suc (length met.factors)) in
      let ins = length-append (met.coordinates ∷ met.references) (w ∷ suc w ∷ []) in
      let rest = met-weighs d (made ++ m ∷ []) next (suc (suc w)) fs (omega (arith, references, factors)) (omega (arith, few, factors)) in
      omega (arith, rest, weight-emit made m, ins, factors, labels_number d met f w, same, few)
    where
      labels_number : (d : ℕ) (met : Met) (f w : ℕ) → length (intersect trees t d met f w).labels ≡ suc (length (met.factors ++ f ∷ []))
      labels_number d met f w = ap suc (length-map (met.factors ++ f ∷ []) (λ g. product_tree_label trees (suc d) (met.factors ++ f ∷ []) (Rank g)))

  asked-few : (d : ℕ) → length (asked t d) ≤ 8
  asked-few d = omega (arith, filter-short (has_loop t d) 0 (length t.accesses), small.accesses)

  spared-few : (d : ℕ) → length (spared t d) ≤ 8
  spared-few d = omega (arith, filter-short (λ f. not (has_loop t d f)) 0 (length t.accesses), small.accesses)

  scanned-weighs : (d : ℕ) (n : Nest) → weight (scanned trees t d n) ≤ weight n.made + 32
  scanned-weighs d n =
      omega (
        arith,
        weight-append n.made (map (scan trees t d n.references) (asked t d)),
        weight-map (scan trees t d n.references) 4 (λ f. omega arith) (asked t d),
        asked-few d,
      )

  first-met : (fs : List ℕ) (w : ℕ)
      → (length (first_met trees t fs w).references ≡ length (first_met trees t fs w).factors)
      × (length (first_met trees t fs w).factors + length (drop 1 fs) ≡ length fs)
  first-met [] w = (refl, refl)
  first-met (f ∷ fs) w = (refl, omega arith)

  pub level-weighs : (d : ℕ) (n : Nest) → weight (level trees t d n).made ≤ weight n.made + 256
  level-weighs d n =
      let w = outputs_of n.made in
      let fs = asked t d in
      let first = first_met trees t fs w in
      let all = all_met trees t d (scanned trees t d n) first (suc (suc w)) (drop 1 fs) in
      let few = first-met fs w in
      let met = met-weighs d (scanned trees t d n) first (suc (suc w)) (drop 1 fs) few.0 (omega (arith, few.1, asked-few d)) in
      let repeats = map (repeat trees t d all.met.coordinates n.references) (spared t d) in
      omega (
        arith,
        met,
        scanned-weighs d n,
        weight-append all.made repeats,
        rest-short fs,
        asked-few d,
        weight-map (repeat trees t d all.met.coordinates n.references) 4 (λ f. omega arith) (spared t d),
        spared-few d,
      )

  nest-weighs : (d : ℕ) (made : List Made) → weight (nest trees t d made).made ≤ weight made + 256 * d
  nest-weighs zero made = omega arith
  nest-weighs (suc d) made = omega (arith, level-weighs d (nest trees t d made), nest-weighs d made)

  multiplied-weighs : (v : Valued) (w : ℕ) (ks : List ℕ) → weight (multiplied trees t v w ks).made ≤ weight v.made + 4 * length ks
  multiplied-weighs v w [] = omega arith
  multiplied-weighs v w (k ∷ ks) =
      let m = product trees t k v.values w in
      let more : Valued = record { made = v.made ++ m ∷ []; values = outputs_of v.made } in
      omega (arith, multiplied-weighs more (suc w) ks, weight-emit v.made m)

  scaled-weighs : (c : Option ℕ) (v : Valued) → weight (scaled trees t c v).made ≤ weight v.made + 7
  scaled-weighs None v = omega arith
  scaled-weighs (Some c) v =
      let m = constant trees t c v.values in
      omega (arith, weight-emit v.made m, weight-emit (v.made ++ m ∷ []) (scaling trees t v.values (outputs_of v.made)))

  -- an array for each factor, their product, and the coefficient
  pub valued-weighs : (made : List Made) (references : List ℕ) → weight (valued trees t made references).made ≤ weight made + 64
  valued-weighs made references =
      let w = outputs_of made in
      let first : Valued = record { made = arrays trees t made references; values = w } in
      let ks = range_with_len 1 (length t.accesses - 1) in
      let all = map (array trees t references) (below (length t.accesses)) in
      let number : length (below (length t.accesses)) ≡ length t.accesses = length-range_with_len 0 (length t.accesses) in
      omega (
        arith,
        scaled-weighs t.coefficient (multiplied trees t first (suc w) ks),
        multiplied-weighs first (suc w) ks,
        length-range_with_len 1 (length t.accesses - 1),
        weight-append made all,
        weight-map (array trees t references) 3 (λ f. omega arith) (below (length t.accesses)),
        number,
        small.accesses,
      )

  -- ---- sums and pruning

  -- a reducer has at most three inputs and three outputs, and leaves at most two levels more than it found
  reduce-weighs : (gone after : ℕ) (l : Levels)
      → (weight (reduce trees gone after l).made ≤ weight l.made + 7)
      × (length (reduce trees gone after l).coordinates ≤ length l.coordinates + 2)
  reduce-weighs gone zero l =
      (omega (arith, weight-emit l.made (sum_scalar trees gone l)), omega (arith, short (length l.coordinates - 1) l.coordinates))
  reduce-weighs gone (suc zero) l = (
    omega (arith, weight-emit l.made (sum_vector trees gone l)),
    omega (arith, short (length l.coordinates - 2) l.coordinates, length-append (take (length l.coordinates - 2) l.coordinates) (outputs_of l.made ∷ [])),
  )
  reduce-weighs gone (suc (suc k)) l = (
    omega (arith, weight-emit l.made (sum_matrix trees gone l)),
    omega (
      arith,
      short (length l.coordinates - 3) l.coordinates,
      length-append (take (length l.coordinates - 3) l.coordinates) (outputs_of l.made ∷ suc (outputs_of l.made) ∷ []),
    ),
  )

  pub reduced-weighs : (marks : List Bool) (l : Levels)
      → (weight (reduced trees marks l).made ≤ weight l.made + 7 * length marks)
      × (length (reduced trees marks l).coordinates ≤ length l.coordinates + 2 * length marks)
  reduced-weighs [] l = (omega arith, omega arith)
  reduced-weighs (true ∷ marks) l = let r = reduced-weighs marks l in (omega (arith, r.0), omega (arith, r.1))
  reduced-weighs (false ∷ marks) l =
      let r = reduced-weighs marks l in
      let one = reduce-weighs (free_marks marks) (left_marks marks) (reduced trees marks l) in
      (omega (arith, r.0, one.0), omega (arith, r.1, one.1))

  -- a nest has so many levels
  nest-counted : (d : ℕ) (made : List Made) → length (nest trees t d made).coordinates ≡ d
  nest-counted zero made = refl
  nest-counted (suc d) made = omega (arith, nest-counted d made, levels_counted trees t d (nest trees t d made))

module _ (trees : PrunedTrees) where
  emptied-weighs : (f : ℕ) (l : Levels)
      → (weight (emptied trees f l).made ≤ weight l.made + 5 * f)
      × (length (emptied trees f l).coordinates ≡ length l.coordinates)
  emptied-weighs zero l = (omega arith, refl)
  emptied-weighs (suc f) l =
      let r = emptied-weighs f (without_fibers trees (suc f) l) in
      let w = outputs_of l.made in
      let once = length-set l.coordinates (suc f - 1) w in
      let twice = length-set (set l.coordinates (suc f - 1) w) (suc f) (suc w) in
      (omega (arith, r.0, weight-emit l.made (drop_fiber trees (suc f) l)), omega (arith, r.1, once, twice))

  pub pruned-weighs : (n : ℕ) (l : Levels)
      → (weight (pruned_below trees n l).made ≤ weight l.made + 5 * n)
      × (length (pruned_below trees n l).coordinates ≤ length l.coordinates + 1)
  pruned-weighs zero l = (omega arith, omega arith)
  pruned-weighs (suc f) l =
      let r = emptied-weighs f (without_values trees l) in (
        omega (arith, r.0, weight-emit l.made (drop_value trees l)),
        omega (
          arith,
          r.1,
          short (length l.coordinates - 1) l.coordinates,
          length-append (take (length l.coordinates - 1) l.coordinates) (outputs_of l.made ∷ []),
        ),
      )

-- all blocks of a term, whose levels are fewer than 32
module _ (term : ℕ) (t : Plan) (small : PlanIsSmall t) where
  term-weighs : (made : List Made)
      → (weight (term_levels term t made).made ≤ weight made + 2400)
      × (length (term_levels term t made).coordinates ≤ 25)
  term-weighs made =
      let loops = length t.on_left in
      let n = nest (Own term) t loops made in
      let v = valued (Own term) t n.made n.references in
      let levels : Levels = record { made = v.made; coordinates = n.coordinates; values = v.values } in
      let sums = reduced-weighs (Own term) t small t.on_left levels in
      let l = summed_levels term t made in
      let rest = pruned-weighs (OfTerm term (free_marks t.on_left)) (length l.coordinates) l in (
        omega (arith, nest-weighs (Own term) t small loops made, valued-weighs (Own term) t small n.made n.references, sums.0, sums.1, rest.0, nest-counted (Own term) t small loops made, small.loops),
        omega (arith, sums.1, rest.1, nest-counted (Own term) t small loops made, small.loops),
      )

-- ---- joins

module _ (last levels : ℕ) where
  few-values : (k x : ℕ) → length (on_last last levels k (x ∷ [])) ≤ 1
  few-values k x = at_most (eqb (suc k) levels)
    where
      at_most : (b : Bool) → length (cond b (x ∷ []) []) ≤ 1
      at_most true = omega arith
      at_most false = omega arith

  few-labels : (k : ℕ) (x : Label) → length (on_last last levels k (x ∷ [])) ≤ 1
  few-labels k x = at_most (eqb (suc k) levels)
    where
      at_most : (b : Bool) → length (cond b (x ∷ []) []) ≤ 1
      at_most true = omega arith
      at_most false = omega arith

  filled-weighs : (side : Side) (k : ℕ) (part : Part) (presence : ℕ) (made : List Made)
      → weight (filled last levels side k part presence made) ≤ weight made + 6
  filled-weighs side zero part presence made = omega arith
  filled-weighs side (suc k) part presence made =
      omega (
        arith,
        weight-emit made (fill last levels side (suc k) part presence),
        few-values (suc k) part.values,
        few-labels (suc k) (record { tree = Beside last side (suc (suc k)); attr = Value }),
      )

  marked-weighs : (k : ℕ) (f : Flank) (made : List Made) → weight (marked last levels k f made) ≤ weight made + 3
  marked-weighs k f made = by_case (eqb (suc k) levels)
    where
      by_case : (b : Bool) → weight (made ++ cond b [] (mark last levels f ∷ [])) ≤ weight made + 3
      by_case true = omega (arith, weight-append made [])
      by_case false = omega (arith, weight-emit made (mark last levels f))

  level-joined : (left right : Part) (k : ℕ) (front : Front)
      → (weight (joined_level last levels left right k front).made ≤ weight front.made + 26)
      × (length (joined_level last levels left right k front).coordinates ≡ suc (length front.coordinates))
  level-joined left right k front =
      let left_filled = filled last levels Left k left front.told front.made in
      let both_filled = filled last levels Right k right (suc front.told) left_filled in
      let a = flank last levels Left k left (outputs_of front.made) in
      let b = flank last levels Right k right (outputs_of left_filled) in
      let left_marked = marked last levels k a both_filled in
      let both_marked = marked last levels k b left_marked in
      let ins = a.coordinates ∷ payload last levels k a both_filled ∷ b.coordinates ∷ payload last levels k b left_marked ∷ [] in (
        omega (
          arith,
          filled-weighs Left k left front.told front.made,
          filled-weighs Right k right (suc front.told) left_filled,
          marked-weighs k a both_filled,
          marked-weighs k b left_marked,
          weight-emit both_marked (union last levels k ins),
        ),
        omega (arith, length-append front.coordinates (outputs_of both_marked ∷ [])),
      )

  levels-joined : (made : List Made) (left right : Part) (k : ℕ)
      → (weight (joined_levels last levels made left right k).made ≤ weight made + 26 * k)
      × (length (joined_levels last levels made left right k).coordinates ≡ k)
  levels-joined made left right zero = (omega arith, refl)
  levels-joined made left right (suc k) =
      let r = levels-joined made left right k in
      let one = level-joined left right k (joined_levels last levels made left right k) in
      (omega (arith, r.0, one.0), omega (arith, r.1, one.1))

sides-joined : (last : ℕ) (minus : Bool) (made : List Made) (left right : Part) → length left.coordinates ≤ 25
    → (weight (joined_sides last minus made left right).made ≤ weight made + 654)
    × (length (joined_sides last minus made left right).coordinates ≤ 25)
sides-joined last minus made left right few =
    let n = length left.coordinates in
    let front = joined_levels last n made left right n in
    let r = levels-joined last n made left right n in
    (omega (arith, r.0, few, weight-emit front.made (sum last n minus (left_values last n n left front) (right_values last n n right front))), omega (arith, r.1, few))

-- ---- a program

terms-joined : (p : Program) → accepted p ≡ true → (n : ℕ) (tree : Tree) (l : Levels) (ts : List Term)
    → list_all (term_fits p.tensors p.var_sizes p.left) ts ≡ true → length l.coordinates ≤ 25
    → (weight (with_terms p n tree l ts).made ≤ weight l.made + 3054 * length ts)
    × (length (with_terms p n tree l ts).coordinates ≤ 25)
terms-joined p ok n tree l [] fit few = (omega arith, few)
terms-joined p ok n tree l (t ∷ ts) fit few =
    let fits = and_parts (term_fits p.tensors p.var_sizes p.left t) (list_all (term_fits p.tensors p.var_sizes p.left) ts) fit in
    let plan = plan_of p false t in
    let more = term_levels n plan l.made in
    let one = term-weighs n plan (small-plan p false t ok fits.0) l.made in
    let both = sides-joined n t.minus more.made (part tree l) (part (first_level_tree n plan) more) few in
    let rest = terms-joined p ok (suc n) (Joined n 1) (with_term p n tree l t) ts fits.1 both.1 in
    (omega (arith, one.0, both.0, rest.0), rest.1)

pub writers-weigh : (l : Levels) → length l.coordinates ≤ 25 → weight (with_writers l) ≤ weight l.made + 52
writers-weigh l few =
    let levels = map (level_writer l.coordinates) (below (length l.coordinates)) in
    omega (
      arith,
      weight-emit (l.made ++ levels) (value_writer l.values),
      weight-append l.made levels,
      weight-map (level_writer l.coordinates) 2 (λ d. omega arith) (below (length l.coordinates)),
      length-range_with_len 0 (length l.coordinates),
      few,
    )

draft-weighs : (p : Program) → accepted p ≡ true → (ts : List Term) → list_all (term_fits p.tensors p.var_sizes p.left) ts ≡ true
    → length ts ≤ 16 → weight (draft_of p ts) ≤ 60000
draft-weighs p ok [] fit few = omega arith
draft-weighs p ok (t ∷ ts) fit few =
    let fits = and_parts (term_fits p.tensors p.var_sizes p.left t) (list_all (term_fits p.tensors p.var_sizes p.left) ts) fit in
    let plan = plan_of p true t in
    let first = term_levels 0 plan (root ∷ []) in
    let one = term-weighs 0 plan (small-plan p true t ok fits.0) (root ∷ []) in
    let rest = terms-joined p ok 1 (first_level_tree 0 plan) first ts fits.1 one.1 in
    omega (arith, one.0, rest.0, few, writers-weigh (with_terms p 1 (first_level_tree 0 plan) first ts) rest.1)

-- The draft of an accepted program has few blocks, outputs and reads.
pub small-draft : (p : Program) → accepted p ≡ true → DraftIsSmall (program_draft p)
small-draft p ok =
    let made = program_draft p in
    let few : weight made ≤ 60000 = draft-weighs p ok p.terms (accepted-terms p ok) (few_terms p ok) in
    record {
      blocks = omega (arith, few, blocks-weigh made);
      outputs = omega (arith, few, outputs-weigh made);
      reads = omega (arith, few, read-number made, reads-weigh made);
    }
