-- The test of a block's labels says just whether they meet its rule.
use Rattle.std.specs.Prelude.{◌≡◌, ◌⊎◌, ℕ, zero, suc, Bool, true, false, ◌&&◌, ◌||◌, List, [], ◌∷◌, get_or, eqb, refl}
use Rattle.std.specs.List.{list_any}
use Rattle.std.proofs.Common.{arith, sym, ◌∙◌, ap, inl, inr}
use Rattle.std.proofs.lemmas.Bool.{and_parts}
use Rattle.std.proofs.lemmas.Bool.Decides.{nat_tests}
use Rattle.sam_model.specs.declared.program.Program.{Program}
use Rattle.sam_model.specs.Lists.{same_list}
use Rattle.stream_model.specs.declared.labels.Side.{Side}
use Rattle.stream_model.specs.declared.labels.Side.TheVariants.{Left, Right}
use Rattle.stream_model.specs.declared.labels.Tree.{Tree}
use Rattle.stream_model.specs.declared.labels.Tree.TheVariants.{Root, Product, Reduced, Joined, Beside, Across, Under, UnderReduced, UnderJoined}
use Rattle.stream_model.specs.declared.labels.Attr.{Attr}
use Rattle.stream_model.specs.declared.labels.Attr.TheVariants.{Coordinate, Rank, FactorValue, Partial, Whole, Value, Present, SideValue, Literal}
use Rattle.stream_model.specs.declared.labels.Label.{Label}
use Rattle.graph.specs.declared.graphs.Kind.{Kind}
use Rattle.label_rules.specs.Labels.{side_code, tree_code, attr_code, same_label, same_labels, ports_allow, IsOneOf, PortsAllow}
use Rattle.label_rules.specs.Rules.{instance, allowed, Allowed}

-- ---- equal lists

pub lists_same : (xs ys : List ℕ) → same_list xs ys ≡ true → xs ≡ ys
lists_same [] [] e = refl
lists_same [] (y ∷ ys) e = absurd (cc)
lists_same (x ∷ xs) [] e = absurd (cc)
lists_same (x ∷ xs) (y ∷ ys) e =
    let both = and_parts (eqb x y) (same_list xs ys) e in
    let first : x ≡ y = let b = both.0 in grind (arith, nat_tests, b) in
    let rest = lists_same xs ys both.1 in cc

pub same_itself : (xs : List ℕ) → same_list xs xs ≡ true
same_itself [] = refl
same_itself (x ∷ xs) = let e : eqb x x ≡ true = grind (arith, nat_tests) in rw e (same_itself xs)

-- ---- a label is told by its numbers

abbrev side_back : ℕ → Side
side_back zero = Left
side_back (suc n) = Right

side_told : (s : Side) → side_back (side_code s) ≡ s
side_told Left = refl
side_told Right = refl

abbrev tree_by : ℕ → List ℕ → Tree
tree_by zero xs = Root
tree_by (suc zero) xs = Product (get_or xs 1 0) (get_or xs 2 0) (get_or xs 3 0)
tree_by (suc (suc zero)) xs = Reduced (get_or xs 1 0) (get_or xs 2 0) (get_or xs 3 0) (get_or xs 4 0)
tree_by (suc (suc (suc zero))) xs = Joined (get_or xs 1 0) (get_or xs 2 0)
tree_by (suc (suc (suc (suc zero)))) xs = Beside (get_or xs 1 0) (side_back (get_or xs 2 0)) (get_or xs 3 0)
tree_by (suc (suc (suc (suc (suc zero))))) xs = Across (get_or xs 1 0) (get_or xs 2 0) (get_or xs 3 0)
tree_by (suc (suc (suc (suc (suc (suc zero)))))) xs = Under (get_or xs 1 0) (get_or xs 2 0) (get_or xs 3 0)
tree_by (suc (suc (suc (suc (suc (suc (suc zero))))))) xs = UnderReduced (get_or xs 1 0) (get_or xs 2 0) (get_or xs 3 0)
tree_by (suc (suc (suc (suc (suc (suc (suc (suc n)))))))) xs = UnderJoined (get_or xs 1 0) (get_or xs 2 0) (get_or xs 3 0)

abbrev tree_back : List ℕ → Tree
tree_back xs = tree_by (get_or xs 0 0) xs

tree_told : (t : Tree) → tree_back (tree_code t) ≡ t
tree_told Root = refl
tree_told (Product t l m) = refl
tree_told (Reduced t g f d) = refl
tree_told (Joined n d) = refl
tree_told (Beside n s d) = ap (λ (x : Side). Beside n x d) (side_told s)
tree_told (Across n t d) = refl
tree_told (Under t l m) = refl
tree_told (UnderReduced t g d) = refl
tree_told (UnderJoined n f d) = refl

abbrev attr_by : ℕ → List ℕ → Attr
attr_by zero xs = Coordinate
attr_by (suc zero) xs = Rank (get_or xs 1 0)
attr_by (suc (suc zero)) xs = FactorValue (get_or xs 1 0)
attr_by (suc (suc (suc zero))) xs = Partial (get_or xs 1 0)
attr_by (suc (suc (suc (suc zero)))) xs = Whole
attr_by (suc (suc (suc (suc (suc zero))))) xs = Value
attr_by (suc (suc (suc (suc (suc (suc zero)))))) xs = Present (side_back (get_or xs 1 0))
attr_by (suc (suc (suc (suc (suc (suc (suc zero))))))) xs = SideValue (side_back (get_or xs 1 0))
attr_by (suc (suc (suc (suc (suc (suc (suc (suc n)))))))) xs = Literal (get_or xs 1 0)

abbrev attr_back : List ℕ → Attr
attr_back xs = attr_by (get_or xs 0 0) xs

attr_told : (a : Attr) → attr_back (attr_code a) ≡ a
attr_told Coordinate = refl
attr_told (Rank f) = refl
attr_told (FactorValue f) = refl
attr_told (Partial k) = refl
attr_told Whole = refl
attr_told Value = refl
attr_told (Present s) = ap Present (side_told s)
attr_told (SideValue s) = ap SideValue (side_told s)
attr_told (Literal n) = refl

pub same-label : (l k : Label) → same_label l k ≡ true → l ≡ k
same-label l k e =
    let both = and_parts (same_list (tree_code l.tree) (tree_code k.tree)) (same_list (attr_code l.attr) (attr_code k.attr)) e in
    let t : l.tree ≡ k.tree = sym (tree_told l.tree) ∙ ap tree_back (lists_same (tree_code l.tree) (tree_code k.tree) both.0) ∙ tree_told k.tree in
    let a : l.attr ≡ k.attr = sym (attr_told l.attr) ∙ ap attr_back (lists_same (attr_code l.attr) (attr_code k.attr) both.1) ∙ attr_told k.attr in
    λ i. record { tree = t i; attr = a i }

pub label-itself : (l : Label) → same_label l l ≡ true
label-itself l = rw (same_itself (tree_code l.tree), same_itself (attr_code l.attr)) refl

pub labels-same : (ls ks : List Label) → same_labels ls ks ≡ true → ls ≡ ks
labels-same [] [] e = refl
labels-same [] (k ∷ ks) e = absurd (cc)
labels-same (l ∷ ls) [] e = absurd (cc)
labels-same (l ∷ ls) (k ∷ ks) e =
    let both = and_parts (same_label l k) (same_labels ls ks) e in
    let first = same-label l k both.0 in
    let rest = labels-same ls ks both.1 in cc

pub labels-themselves : (ls : List Label) → same_labels ls ls ≡ true
labels-themselves [] = refl
labels-themselves (l ∷ ls) = rw (label-itself l) (labels-themselves ls)

-- ---- one of several

one-of : (l : Label) (ks : List Label) → list_any (same_label l) ks ≡ true → IsOneOf l ks
one-of l [] e = absurd (cc)
one-of l (k ∷ ks) e = by_case (same_label l k) refl e (one-of l ks)
  where
    by_case : (b : Bool) → same_label l k ≡ b → (b || list_any (same_label l) ks) ≡ true → (list_any (same_label l) ks ≡ true → IsOneOf l ks)
        → (l ≡ k) ⊎ IsOneOf l ks
    by_case true s e r = inl (same-label l k s)
    by_case false s e r = inr (r e)

is-one : (l : Label) (ks : List Label) → IsOneOf l ks → list_any (same_label l) ks ≡ true
is-one l [] x = absurd x
is-one l (k ∷ ks) (inl e) = ap (λ (x : Label). same_label l x || list_any (same_label l) ks) (sym e) ∙ rw (label-itself l) refl
is-one l (k ∷ ks) (inr x) = let r = is-one l ks x in by_case (same_label l k) r
  where
    by_case : (b : Bool) → list_any (same_label l) ks ≡ true → (b || list_any (same_label l) ks) ≡ true
    by_case true r = refl
    by_case false r = r

each-one : (cs : List (List Label)) (ls : List Label) → ports_allow cs ls ≡ true → PortsAllow cs ls
each-one [] [] e = tt
each-one [] (l ∷ ls) e = absurd (cc)
each-one (c ∷ cs) [] e = absurd (cc)
each-one (c ∷ cs) (l ∷ ls) e =
    let both = and_parts (list_any (same_label l) c) (ports_allow cs ls) e in (one-of l c both.0, each-one cs ls both.1)

one-each : (cs : List (List Label)) (ls : List Label) → PortsAllow cs ls → ports_allow cs ls ≡ true
one-each [] [] x = refl
one-each [] (l ∷ ls) x = absurd x
one-each (c ∷ cs) [] x = absurd x
one-each (c ∷ cs) (l ∷ ls) x = rw (is-one l c x.0) (one-each cs ls x.1)

-- ---- the test

module _ (p : Program) (k : Kind) (ins outs : List Label) where
  pub allowed-gives : allowed p k ins outs ≡ true → Allowed p k ins outs
  allowed-gives e =
      let i = instance p k ins outs in
      let one = and_parts i.holds (ports_allow i.ins ins && same_labels outs i.outs) e in
      let two = and_parts (ports_allow i.ins ins) (same_labels outs i.outs) one.1 in
      record { holds = one.0; ins_are = each-one i.ins ins two.0; outs_are = labels-same outs i.outs two.1 }

  pub gives-allowed : Allowed p k ins outs → allowed p k ins outs ≡ true
  gives-allowed a =
      let i = instance p k ins outs in
      let same : same_labels outs i.outs ≡ true =
      ap (λ (x : List Label). same_labels outs x) (sym a.outs_are) ∙ labels-themselves outs in
      rw (a.holds, one-each i.ins ins a.ins_are) same
