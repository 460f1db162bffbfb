-- Labels are the same where their numbers are; and labels at ports that may each have just one.
use Rattle.std.specs.Prelude.{◌≡◌, ℕ, Bool, true, false, ◌&&◌, ◌||◌, List, [], ◌∷◌, eqb, refl}
use Rattle.std.proofs.Common.{◌∙◌, ap}
use Rattle.sam_model.specs.Lists.{same_list}
use Rattle.stream_model.specs.declared.labels.Side.{Side}
use Rattle.stream_model.specs.declared.labels.Side.TheVariants.{Left, Right}
use Rattle.stream_model.specs.declared.labels.Tree.{Tree}
use Rattle.stream_model.specs.declared.labels.Tree.TheVariants.{Root, Product, Reduced, Joined, Beside, Across, Under, UnderReduced, UnderJoined}
use Rattle.stream_model.specs.declared.labels.Attr.{Attr}
use Rattle.stream_model.specs.declared.labels.Attr.TheVariants.{Coordinate, Rank, FactorValue, Partial, Whole, Value, Present, SideValue, Literal}
use Rattle.stream_model.specs.declared.labels.Label.{Label}
use Rattle.stream_model.specs.contracts.labels.SidePartialEq.TheImpl.{ghosts as by_side}
use Rattle.stream_model.specs.contracts.labels.TreePartialEq.TheImpl.{ghosts as by_tree}
use Rattle.stream_model.specs.contracts.labels.AttrPartialEq.TheImpl.{ghosts as by_attr}
use Rattle.stream_model.specs.contracts.labels.LabelPartialEq.TheImpl.{ghosts as by_label}
use Rattle.label_rules.specs.Labels.{side_code, tree_code, attr_code, same_label, same_labels, ports_allow, just_these}

-- ---- equal labels

and-true : (b : Bool) → b ≡ (b && true)
and-true true = refl
and-true false = refl

two : (a b : ℕ) (x : Bool) → (eqb a b && x) ≡ (eqb a b && (x && true))
two a b x = ap (λ (y : Bool). eqb a b && y) (and-true x)

three : (a b c d : ℕ) (x : Bool) → (eqb a b && (eqb c d && x)) ≡ (eqb a b && (eqb c d && (x && true)))
three a b c d x = ap (λ (y : Bool). eqb a b && y) (two c d x)

four : (a b c d e f : ℕ) (x : Bool) → (eqb a b && (eqb c d && (eqb e f && x))) ≡ (eqb a b && (eqb c d && (eqb e f && (x && true))))
four a b c d e f x = ap (λ (y : Bool). eqb a b && y) (three c d e f x)

sides-same : (s r : Side) → by_side.eq s r ≡ eqb (side_code s) (side_code r)
sides-same Left Left = refl
sides-same Left Right = refl
sides-same Right Left = refl
sides-same Right Right = refl

trees-same : (a b : Tree) → by_tree.eq a b ≡ same_list (tree_code a) (tree_code b)
trees-same Root Root = refl
trees-same Root other = refl
trees-same (Product t l m) (Product u k n) = three t u l k (eqb m n)
trees-same (Product t l m) other = refl
trees-same (Reduced t g f d) (Reduced u h e c) = four t u g h f e (eqb d c)
trees-same (Reduced t g f d) other = refl
trees-same (Joined n d) (Joined m c) = two n m (eqb d c)
trees-same (Joined n d) other = refl
trees-same (Beside n s d) (Beside m r c) =
    three_sides n m d c s r
  where
    three_sides : (n m d c : ℕ) (s r : Side) → (eqb n m && (by_side.eq s r && eqb d c)) ≡ (eqb n m && (eqb (side_code s) (side_code r) && (eqb d c && true)))
    three_sides n m d c s r =
        ap (λ (y : Bool). eqb n m && (y && eqb d c)) (sides-same s r) ∙ three n m (side_code s) (side_code r) (eqb d c)
trees-same (Beside n s d) other = refl
trees-same (Across n t d) (Across m u c) = three n m t u (eqb d c)
trees-same (Across n t d) other = refl
trees-same (Under t l m) (Under u k n) = three t u l k (eqb m n)
trees-same (Under t l m) other = refl
trees-same (UnderReduced t g d) (UnderReduced u h c) = three t u g h (eqb d c)
trees-same (UnderReduced t g d) other = refl
trees-same (UnderJoined n f d) (UnderJoined m e c) = three n m f e (eqb d c)
trees-same (UnderJoined n f d) other = refl

attrs-same : (a b : Attr) → by_attr.eq a b ≡ same_list (attr_code a) (attr_code b)
attrs-same Coordinate Coordinate = refl
attrs-same Coordinate other = refl
attrs-same (Rank f) (Rank g) = and-true (eqb f g)
attrs-same (Rank f) other = refl
attrs-same (FactorValue f) (FactorValue g) = and-true (eqb f g)
attrs-same (FactorValue f) other = refl
attrs-same (Partial f) (Partial g) = and-true (eqb f g)
attrs-same (Partial f) other = refl
attrs-same Whole Whole = refl
attrs-same Whole other = refl
attrs-same Value Value = refl
attrs-same Value other = refl
attrs-same (Present s) (Present r) = sides-same s r ∙ and-true (eqb (side_code s) (side_code r))
attrs-same (Present s) other = refl
attrs-same (SideValue s) (SideValue r) = sides-same s r ∙ and-true (eqb (side_code s) (side_code r))
attrs-same (SideValue s) other = refl
attrs-same (Literal n) (Literal m) = and-true (eqb n m)
attrs-same (Literal n) other = refl

pub label-same : (a b : Label) → by_label.eq a b ≡ same_label a b
label-same a b =
    ap (λ (x : Bool). x && by_attr.eq a.attr b.attr) (trees-same a.tree b.tree)
    ∙ ap (λ (x : Bool). same_list (tree_code a.tree) (tree_code b.tree) && x) (attrs-same a.attr b.attr)

-- ---- ports with one label each

or-false : (b : Bool) → b ≡ (b || false)
or-false true = refl
or-false false = refl

pub same-just : (ls ks : List Label) → same_labels ls ks ≡ ports_allow (just_these ks) ls
same-just [] [] = refl
same-just [] (k ∷ ks) = refl
same-just (l ∷ ls) [] = refl
same-just (l ∷ ls) (k ∷ ks) = rw (same-just ls ks) (ap (λ (b : Bool). b && ports_allow (just_these ks) ls) (or-false (same_label l k)))
