-- The rules of all kinds are sound, so what they say of the labels of a graph holds of its whole streams.
use Rattle.std.specs.Prelude.{◌≡◌, ◌<◌, ◌≤◌, ℕ, zero, suc, ◌-◌, Bool, true, false, cond, ◌&&◌, List, [], ◌∷◌, length, get_or, eqb, ltb, leb, refl}
use Rattle.std.specs.List.{range_with_len}
use mathlib.Core.List.{map}
use Rattle.std.proofs.Common.{arith, sym, ◌∙◌, ap, subst, inl, inr}
use Rattle.std.proofs.lemmas.Bool.{and_parts, ltb-true, eqb-true, leb-true}
use Rattle.std.proofs.lemmas.Bool.Decides.{nat_tests}
use Rattle.stream_tokens.specs.declared.Token.{Token}
use Rattle.sam_model.specs.declared.tensors.Entries.{Entries}
use Rattle.sam_model.specs.declared.program.Program.{Program}
use Rattle.sam_model.specs.Program.{accepted}
use Rattle.stream_model.specs.declared.labels.Side.{Side}
use Rattle.stream_model.specs.declared.labels.Side.TheVariants.{Left, Right}
use Rattle.stream_model.specs.declared.labels.Tree.TheVariants.{Joined, Beside}
use Rattle.stream_model.specs.declared.labels.Attr.TheVariants.{Coordinate, FactorValue, Partial, Whole, Value, Present, Literal, SideValue}
use Rattle.stream_model.specs.declared.labels.Label.{Label}
use Rattle.stream_model.specs.Labels.{result_sizes, label_stream}
use Rattle.graph.specs.declared.graphs.Kind.{Kind}
use Rattle.graph.specs.declared.graphs.Kind.TheVariants as kind
use Rattle.graph.specs.declared.graphs.Graph.{Graph}
use Rattle.graph.specs.Wiring.{WellFormed}
use Rattle.label_rules.specs.Storages.{storages_of}
use Rattle.label_rules.specs.Labels.{just_these, tree_label, IsOneOf, PortsAllow, port_label, same_label}
use Rattle.label_rules.specs.Named.{tree_level, named, tree_side}
use Rattle.label_rules.specs.TermLabels.{empty_term, plan_at, bottom_label, partial_labels, factor_count, plan_coefficient, is_term, free_loop_count, coordinate_labels, value_labels, reduced_label, left_after}
use Rattle.label_rules.specs.JoinLabels.{side_tree, beside_attr, joined_attr, own_labels, lone_labels}
use Rattle.label_rules.specs.Rules.{Instance, Allowed}
use Rattle.label_rules.specs.Laws.{KeepsLabels}
use Rattle.label_rules.specs.Holding.{Shallow, EachLabel, Keeps, RulesSound, RulesMet, LabelsHold}
use Rattle.label_rules.proofs.rules.Holding.{rules-hold}
use Rattle.label_rules.proofs.rules.TermRules.{just-these, is_not, first_shallow, covered-sound}
use Rattle.label_rules.proofs.rules.SumRule.{sum-sound}
use Rattle.label_rules.proofs.rules.SpaceRules.{vector-keeps, matrix-keeps}
use Rattle.label_rules.proofs.rules.DropRules.{few, dropvalue-keeps, dropfiber-keeps}
use Rattle.label_rules.proofs.rules.ValueRules.{const-keeps, whole-keeps, product-keeps, level-keeps, values-keep}
use Rattle.label_rules.proofs.rules.JoinRules.{alone-keeps, union-keeps, add-keeps, sub-keeps}
use Rattle.label_rules.proofs.rules.FillRules.{one-ranged, fill-keeps, fill-values-keep}

-- the one label that stands at a block's one port
only_port : (cs ins : List Label) → PortsAllow (cs ∷ []) ins → (l : Label) × (ins ≡ l ∷ []) × IsOneOf l cs
only_port cs [] x = absurd x
only_port cs (l ∷ []) x = (l, refl, x.0)
only_port cs (l ∷ k ∷ ins) x = absurd x.1

module _ (p : Program) (es : List Entries) (ok : accepted p ≡ true) (same : length es ≡ length p.tensors) where
  abbrev stream : Label → List Token
  stream l = label_stream p es l

  abbrev Kept : Kind → List Label → List Label → Type 0
  Kept k ins outs = Keeps (storages_of p es) stream Shallow k ins outs

  mul_sound : (t k : ℕ) (ins outs : List Label) (b : Bool)
      → (cond b (is_term p t) (is_term p t && (ltb 1 k && leb k (factor_count p t)))) ≡ true
      → PortsAllow (cond b (partial_labels p t (factor_count p t) ∷ (bottom_label p t (Literal (plan_coefficient p t)) ∷ []) ∷ [])
      (partial_labels p t (k - 1) ∷ (bottom_label p t (FactorValue (k - 1)) ∷ []) ∷ [])) ins
      → outs ≡ cond b (bottom_label p t Whole ∷ []) (bottom_label p t (Partial k) ∷ []) → Kept kind.Mul ins outs
  mul_sound t k ins outs true h i o = whole-keeps p es ok same t (ltb-true t (length p.terms) h) ins outs i o
  mul_sound t k ins outs false h i o =
      let one = and_parts _ _ h in
      let more = and_parts _ _ one.1 in
      let low = ltb-true 1 k more.0 in
      let high = leb-true k (factor_count p t) more.1 in
      let back : k ≡ suc (k - 1) = omega (arith, low) in
      product-keeps p es ok same t (ltb-true t (length p.terms) one.0) (k - 1) ins outs (omega (arith, low)) (omega (arith, low, high)) i
      (o ∙ ap (λ (n : ℕ). bottom_label p t (Partial n) ∷ []) back)

  mul_case : (t k : ℕ) (ins outs : List Label) (b : Bool) → (i j : Instance)
      → (cond b i j).holds ≡ true → PortsAllow (cond b i j).ins ins → outs ≡ (cond b i j).outs
      → (cond b i.holds j.holds ≡ true) × PortsAllow (cond b i.ins j.ins) ins × (outs ≡ cond b i.outs j.outs)
  mul_case t k ins outs true i j h x o = (h, x, o)
  mul_case t k ins outs false i j h x o = (h, x, o)

  fill_sound : (w e d : ℕ) (side : Side) (full : Bool) (ins outs : List Label) → eqb d (length (result_sizes p)) ≡ full
      → w ≡ cond full 1 0 → 0 < e → e < length p.terms → 1 < d → d ≤ length (result_sizes p)
      → PortsAllow ((tree_label (Joined e (d - 1)) (Present side) ∷ []) ∷ own_labels p e side d Coordinate ∷ cond full (own_labels p e side d Value ∷ []) []) ins
      → outs ≡ tree_label (Beside e side d) Coordinate ∷ cond full (tree_label (Beside e side d) Value ∷ []) []
      → Kept (kind.Fill w) ins outs
  fill_sound w e zero side full ins outs k ew later inside low high x o = absurd (omega (arith, low))
  fill_sound w e (suc d) side false [] outs k ew later inside low high x o = absurd x
  fill_sound w e (suc d) side false (a ∷ []) outs k ew later inside low high x o = absurd x.1
  fill_sound w e (suc d) side false (a ∷ l ∷ v ∷ ins) outs k ew later inside low high x o = absurd x.1.1
  fill_sound w e (suc d) side false (a ∷ l ∷ []) outs k ew later inside low high x o =
      let back : suc d - 1 ≡ d = omega arith in
      subst (λ (n : ℕ). Kept (kind.Fill n) (a ∷ l ∷ []) outs) (sym ew)
      (fill-keeps p es ok same e later inside d (omega (arith, low)) (omega (arith, high)) side l (a ∷ l ∷ []) outs x.1.0
      (first_is a _ x.0 back l []) o)
    where
      first_is : (a : Label) (n : ℕ) → IsOneOf a (tree_label (Joined e n) (Present side) ∷ []) → n ≡ d → (l : Label) (ls : List Label)
          → a ∷ l ∷ ls ≡ tree_label (Joined e d) (Present side) ∷ l ∷ ls
      first_is a n (inl y) back l ls = ap (λ (b : Label). b ∷ l ∷ ls) (y ∙ ap (λ (m : ℕ). tree_label (Joined e m) (Present side)) back)
      first_is a n (inr y) back l ls = absurd y
  fill_sound w e (suc d) side true [] outs k ew later inside low high x o = absurd x
  fill_sound w e (suc d) side true (a ∷ []) outs k ew later inside low high x o = absurd x.1
  fill_sound w e (suc d) side true (a ∷ l ∷ []) outs k ew later inside low high x o = absurd x.1.1
  fill_sound w e (suc d) side true (a ∷ l ∷ v ∷ b ∷ ins) outs k ew later inside low high x o = absurd x.1.1.1
  fill_sound w e (suc d) side true (a ∷ l ∷ v ∷ []) outs k ew later inside low high x o =
      let back : suc d - 1 ≡ d = omega arith in
      let all : suc d ≡ length (result_sizes p) = grind (arith, nat_tests, k) in
      subst (λ (n : ℕ). Kept (kind.Fill n) (a ∷ l ∷ v ∷ []) outs) (sym ew)
      (fill-values-keep p es ok same e later inside d (omega (arith, low)) (omega (arith, high)) all side l v (a ∷ l ∷ v ∷ []) outs x.1.0 x.1.1.0
      (first_is a _ x.0 back) o)
    where
      first_is : (a : Label) (n : ℕ) → IsOneOf a (tree_label (Joined e n) (Present side) ∷ []) → n ≡ d
          → a ∷ l ∷ v ∷ [] ≡ tree_label (Joined e d) (Present side) ∷ l ∷ v ∷ []
      first_is a n (inl y) back = ap (λ (b : Label). b ∷ l ∷ v ∷ []) (y ∙ ap (λ (m : ℕ). tree_label (Joined e m) (Present side)) back)
      first_is a n (inr y) back = absurd y

  -- what a level's writer may take is of its level
  level_told : (d : ℕ) (l : Label) (b : Bool)
      → IsOneOf l (cond b (map (λ f. reduced_label p 0 (free_loop_count p 0) f d Coordinate) (range_with_len 1 d)) (tree_label (Joined (length p.terms - 1) d) Coordinate ∷ []))
      → (l.attr ≡ Coordinate) × (tree_level l.tree ≡ d)
  level_told d l true x =
      let r = one-ranged (λ f. reduced_label p 0 (free_loop_count p 0) f d Coordinate) l 1 d x in
      (ap (λ (k : Label). k.attr) r.1, ap (λ (k : Label). tree_level k.tree) r.1)
  level_told d l false (inl y) = (ap (λ (k : Label). k.attr) y, ap (λ (k : Label). tree_level k.tree) y)
  level_told d l false (inr y) = absurd y

  union_sound : (l r e d : ℕ) (ins outs : List Label) → l ≡ 1 → r ≡ 1 → 0 < e → e < length p.terms → 0 < d → d ≤ length (result_sizes p)
      → PortsAllow (just_these (tree_label (side_tree p e Left d) Coordinate ∷ tree_label (side_tree p e Left d) (beside_attr (eqb d (length (result_sizes p))))
      ∷ tree_label (side_tree p e Right d) Coordinate ∷ tree_label (side_tree p e Right d) (beside_attr (eqb d (length (result_sizes p)))) ∷ [])) ins
      → outs ≡ tree_label (Joined e d) Coordinate ∷ tree_label (Joined e d) (joined_attr (eqb d (length (result_sizes p))) Left)
      ∷ tree_label (Joined e d) (joined_attr (eqb d (length (result_sizes p))) Right) ∷ []
      → Kept (kind.Union l r) ins outs
  union_sound l r e zero ins outs is_l is_r later inside some high x o = absurd (omega (arith, some))
  union_sound l r e (suc d) ins outs is_l is_r later inside some high x o =
      let short = few p es ok same e inside in
      subst (λ (n : ℕ). Kept (kind.Union n r) ins outs) (sym is_l)
      (subst (λ (n : ℕ). Kept (kind.Union 1 n) ins outs) (sym is_r)
      (union-keeps p es ok same e later inside d (eqb (suc d) (length (result_sizes p))) ins outs refl (omega (arith, short, high))
      (just-these _ ins x) o))

  dropvalue_sound : (t r : ℕ) (ins outs : List Label) → t < length p.terms → r ≡ length (result_sizes p) → 0 < r
      → PortsAllow (coordinate_labels p t (free_loop_count p t) r ∷ value_labels p t (free_loop_count p t) ∷ []) ins
      → outs ≡ reduced_label p t (free_loop_count p t) r r Coordinate ∷ reduced_label p t (free_loop_count p t) r r Value ∷ [] → Kept kind.DropValue ins outs
  dropvalue_sound t zero ins outs inside e some x o = absurd (omega (arith, some))
  dropvalue_sound t (suc r) ins outs inside e some x o = dropvalue-keeps p es ok same t inside r ins outs (sym e) x o

  dropfiber_sound : (t f : ℕ) (ins outs : List Label) → t < length p.terms → 0 < f → f < length (result_sizes p)
      → PortsAllow (coordinate_labels p t (free_loop_count p t) f ∷ (reduced_label p t (free_loop_count p t) (suc f) (suc f) Coordinate ∷ []) ∷ []) ins
      → outs ≡ reduced_label p t (free_loop_count p t) f f Coordinate ∷ reduced_label p t (free_loop_count p t) f (suc f) Coordinate ∷ [] → Kept kind.DropFiber ins outs
  dropfiber_sound t zero ins outs inside some below x o = absurd (omega (arith, some))
  dropfiber_sound t (suc f) ins outs inside some below x o = dropfiber-keeps p es ok same t inside f ins outs below x o

  level_sound : (d : ℕ) (ins outs : List Label) (b : Bool) → 0 < d
      → PortsAllow (cond b (map (λ f. reduced_label p 0 (free_loop_count p 0) f d Coordinate) (range_with_len 1 d)) (tree_label (Joined (length p.terms - 1) d) Coordinate ∷ []) ∷ []) ins
      → outs ≡ [] → EachLabel Shallow ins → Kept (kind.WriteLevel d) ins outs
  level_sound zero ins outs b some x o h = absurd (omega (arith, some))
  level_sound (suc d) ins outs b some x o h =
      let q = only_port _ ins x in
      let l = level_told (suc d) q.0 b q.2 in
      subst (λ (ls : List Label). Kept (kind.WriteLevel (suc d)) ins ls) (sym o)
      (level-keeps p es ok same d q.0 ins q.1 l.0 l.1 (first_shallow p es ok same q.0 [] ins q.1 h))

  abbrev Added : ℕ → Bool → List (List Label)
  Added e b =
      cond b (lone_labels p e ∷ value_labels p e (free_loop_count p e) ∷ [])
      (just_these (tree_label (Joined e (length (result_sizes p))) (SideValue Left) ∷ tree_label (Joined e (length (result_sizes p))) (SideValue Right) ∷ []))

  add_sound : (e : ℕ) (b : Bool) (ins outs : List Label) → eqb (length (result_sizes p)) 0 ≡ b → 0 < e → e < length p.terms
      → (get_or p.terms e empty_term).minus ≡ false → PortsAllow (Added e b) ins → outs ≡ tree_label (Joined e (length (result_sizes p))) Value ∷ []
      → Kept kind.Add ins outs
  add_sound e true ins outs k later inside sign x o =
      let none : length (result_sizes p) ≡ 0 = grind (arith, nat_tests, k) in (alone-keeps p es ok same e later inside none ins outs x o).0 sign
  add_sound e false ins outs k later inside sign x o = add-keeps p es ok same e later inside ins outs sign (just-these _ ins x) o

  sub_sound : (e : ℕ) (b : Bool) (ins outs : List Label) → eqb (length (result_sizes p)) 0 ≡ b → 0 < e → e < length p.terms
      → (get_or p.terms e empty_term).minus ≡ true → PortsAllow (Added e b) ins → outs ≡ tree_label (Joined e (length (result_sizes p))) Value ∷ []
      → Kept kind.Sub ins outs
  sub_sound e true ins outs k later inside sign x o =
      let none : length (result_sizes p) ≡ 0 = grind (arith, nat_tests, k) in (alone-keeps p es ok same e later inside none ins outs x o).1 sign
  sub_sound e false ins outs k later inside sign x o = sub-keeps p es ok same e later inside ins outs sign (just-these _ ins x) o

  pub rules-sound : RulesSound (storages_of p es) stream Shallow (Allowed p)
  rules-sound kind.Root ins outs a h = covered-sound p es ok same kind.Root tt ins outs a h
  rules-sound (kind.Scan tensor level) ins outs a h = covered-sound p es ok same (kind.Scan tensor level) tt ins outs a h
  rules-sound kind.Repeat ins outs a h = covered-sound p es ok same kind.Repeat tt ins outs a h
  rules-sound (kind.Cast n) ins outs a h = covered-sound p es ok same (kind.Cast n) tt ins outs a h
  rules-sound kind.Drain ins outs a h = covered-sound p es ok same kind.Drain tt ins outs a h
  rules-sound (kind.Intersect l r) ins outs a h = covered-sound p es ok same (kind.Intersect l r) tt ins outs a h
  rules-sound (kind.Array tensor) ins outs a h = covered-sound p es ok same (kind.Array tensor) tt ins outs a h
  rules-sound (kind.Union l r) ins outs a h =
      let x = named 1 ins outs in
      let one = and_parts _ _ a.holds in
      let second = and_parts _ _ one.1 in
      let third = and_parts _ _ second.1 in
      let further = and_parts _ _ third.0 in
      let level = and_parts _ _ third.1 in
      union_sound l r x.term x.level ins outs (eqb-true l 1 one.0) (eqb-true r 1 second.0) (ltb-true 0 x.term further.0)
      (ltb-true x.term (length p.terms) further.1) (ltb-true 0 x.level level.0) (leb-true x.level (length (result_sizes p)) level.1) a.ins_are a.outs_are
  rules-sound kind.Mul ins outs a h =
      let x = named 0 ins outs in
      let c = mul_case x.term x.factor ins outs (same_label (port_label outs 0) (bottom_label p x.term Whole)) _ _ a.holds a.ins_are a.outs_are in
      mul_sound x.term x.factor ins outs (same_label (port_label outs 0) (bottom_label p x.term Whole)) c.0 c.1 c.2
  rules-sound kind.Add ins outs a h =
      let e = (named 0 ins outs).term in
      let one = and_parts _ _ a.holds in
      let further = and_parts _ _ one.0 in
      add_sound e (eqb (length (result_sizes p)) 0) ins outs refl (ltb-true 0 e further.0) (ltb-true e (length p.terms) further.1)
      (is_not (get_or p.terms e empty_term).minus one.1) a.ins_are a.outs_are
  rules-sound kind.Sub ins outs a h =
      let e = (named 0 ins outs).term in
      let one = and_parts _ _ a.holds in
      let further = and_parts _ _ one.0 in
      sub_sound e (eqb (length (result_sizes p)) 0) ins outs refl (ltb-true 0 e further.0) (ltb-true e (length p.terms) further.1) one.1 a.ins_are a.outs_are
  rules-sound (kind.Const c) ins outs a h =
      let l = port_label ins 0 in
      let i : ins ≡ l ∷ [] = just-these (l ∷ []) ins a.ins_are in
      const-keeps p es ok same c l ins outs a.holds (first_shallow p es ok same l [] ins i h) i a.outs_are
  rules-sound kind.SumScalar ins outs a h = sum-sound p es ok same ins outs a
  rules-sound kind.SumVector ins outs a h =
      let x = named 0 ins outs in
      let g = x.gone - 1 in
      let one = and_parts _ _ a.holds in
      let second = and_parts _ _ one.1 in
      let third = and_parts _ _ second.1 in
      vector-keeps p es ok same x.term (ltb-true x.term (length p.terms) one.0) g ins outs (ltb-true g (free_loop_count p x.term) third.0)
      (eqb-true (left_after g (plan_at p x.term).on_left) 1 third.1) a.ins_are a.outs_are
  rules-sound kind.SumMatrix ins outs a h =
      let x = named 0 ins outs in
      let g = x.gone - 1 in
      let one = and_parts _ _ a.holds in
      let second = and_parts _ _ one.1 in
      let third = and_parts _ _ second.1 in
      matrix-keeps p es ok same x.term (ltb-true x.term (length p.terms) one.0) g ins outs (ltb-true g (free_loop_count p x.term) third.0)
      (eqb-true (left_after g (plan_at p x.term).on_left) 2 third.1) a.ins_are a.outs_are
  rules-sound kind.DropValue ins outs a h =
      let x = named 0 ins outs in
      let one = and_parts _ _ a.holds in
      dropvalue_sound x.term (length (result_sizes p)) ins outs (ltb-true x.term (length p.terms) one.0) refl
      (ltb-true 0 (length (result_sizes p)) one.1) a.ins_are a.outs_are
  rules-sound kind.DropFiber ins outs a h =
      let x = named 0 ins outs in
      let one = and_parts _ _ a.holds in
      let second = and_parts _ _ one.1 in
      dropfiber_sound x.term x.level ins outs (ltb-true x.term (length p.terms) one.0) (ltb-true 0 x.level second.0)
      (ltb-true x.level (length (result_sizes p)) second.1) a.ins_are a.outs_are
  rules-sound (kind.Fill w) ins outs a h =
      let x = named 0 ins outs in
      let one = and_parts _ _ a.holds in
      let second = and_parts _ _ one.1 in
      let further = and_parts _ _ second.0 in
      let level = and_parts _ _ second.1 in
      fill_sound w x.term x.level (tree_side (port_label outs 0).tree) (eqb x.level (length (result_sizes p))) ins outs refl
      (eqb-true w (cond (eqb x.level (length (result_sizes p))) 1 0) one.0) (ltb-true 0 x.term further.0) (ltb-true x.term (length p.terms) further.1)
      (ltb-true 1 x.level level.0) (leb-true x.level (length (result_sizes p)) level.1) a.ins_are a.outs_are
  rules-sound (kind.WriteLevel d) ins outs a h =
      let one = and_parts _ _ a.holds in
      level_sound d ins outs (eqb (length p.terms) 1) (ltb-true 0 d one.0) a.ins_are a.outs_are h
  rules-sound kind.WriteValue ins outs a h =
      let q = only_port _ ins a.ins_are in
      subst (λ (ls : List Label). Kept kind.WriteValue ins ls) (sym a.outs_are)
      (values-keep p es ok same q.0 ins q.1 (first_shallow p es ok same q.0 [] ins q.1 h))

  -- In a well formed graph whose blocks all meet their rules, all whole inputs fit, and each whole stream is that of its label.
  pub checked-graph : (g : Graph) → WellFormed g → RulesMet (Allowed p) g → LabelsHold (storages_of p es) stream Shallow g
  checked-graph g w met = rules-hold (storages_of p es) stream Shallow (Allowed p) rules-sound g w met

-- each kind's law
pub keeps-labels : (k : Kind) → KeepsLabels k
keeps-labels k p es ins outs ok same a h = rules-sound p es ok same k ins outs a h
