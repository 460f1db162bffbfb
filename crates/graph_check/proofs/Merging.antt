-- Labels at an intersecter: those of its left side come before those of its right one.
use Rattle.std.specs.Prelude.{◌≡◌, ◌≤◌, ◌+◌, ◌-◌, ℕ, suc, Bool, true, false, ◌&&◌, List, [], ◌∷◌, ◌++◌, length, take, drop, get_or, eqb, refl}
use Rattle.std.specs.Int.Bits.{bit_or}
use Rattle.std.proofs.Common.{arith, sym, ◌∙◌, ap}
use Rattle.std.proofs.lemmas.Bool.{eqb-true}
use Rattle.std.proofs.lemmas.Bool.Decides.{nat_tests}
use Rattle.std.proofs.lemmas.List.{take-append-drop, length-take-le, length-drop, length-map, length-append, get_or-drop}
use Rattle.sam_model.specs.declared.program.Program.{Program}
use Rattle.stream_model.specs.declared.labels.Attr.TheVariants.{Rank}
use Rattle.stream_model.specs.declared.labels.Label.{Label}
use Rattle.graph.specs.declared.graphs.Kind.TheVariants.{Intersect}
use Rattle.label_rules.specs.Labels.{no_label, same_label, same_labels, ports_allow, just_these, port_label}
use Rattle.label_rules.specs.Named.{tree_term, tree_level, tree_mask, attr_number, attr_numbers}
use Rattle.label_rules.specs.TermLabels.{is_term, product_label, met_labels}
use Rattle.label_rules.specs.Rules.{allowed}
use Rattle.graph_check.proofs.SameLabels.{same-just}

and-false : (b : Bool) → (b && false) ≡ false
and-false true = refl
and-false false = refl

both-and : (a b c : Bool) → (a && (b && c)) ≡ ((a && b) && c)
both-and true b c = refl
both-and false b c = refl

-- lists of labels are the same where their parts are
pub same-parts : (xs ys us vs : List Label) → length xs ≡ length us → same_labels (xs ++ ys) (us ++ vs) ≡ (same_labels xs us && same_labels ys vs)
same-parts [] ys [] vs e = refl
same-parts [] ys (u ∷ us) vs e = absurd (omega (arith, e))
same-parts (x ∷ xs) ys [] vs e = absurd (omega (arith, e))
same-parts (x ∷ xs) ys (u ∷ us) vs e =
    ap (λ (b : Bool). same_label x u && b) (same-parts xs ys us vs (omega (arith, e)))
    ∙ both-and (same_label x u) (same_labels xs us) (same_labels ys vs)

-- and not where they are longer or shorter
pub other-length : (xs us : List Label) → (length xs ≡ length us → ⊥) → same_labels xs us ≡ false
other-length [] [] h = absurd (h refl)
other-length [] (u ∷ us) h = refl
other-length (x ∷ xs) [] h = refl
other-length (x ∷ xs) (u ∷ us) h =
    let less : length xs ≡ length us → ⊥ = λ e. h (omega (arith, e)) in
    ap (λ (b : Bool). same_label x u && b) (other-length xs us less) ∙ and-false (same_label x u)

refuses : (a b c d e : Bool) → (b ≡ true → c ≡ true → d ≡ false) → ((a && (b && c)) && (d && e)) ≡ false
refuses false b c d e h = refl
refuses true false c d e h = refl
refuses true true false d e h = refl
refuses true true true d e h = ap (λ (x : Bool). x && e) (h refl refl)

-- an intersecter has the coordinates of two sides and their references
pub other-number : (p : Program) (l r : ℕ) (ins outs : List Label) → (length ins ≡ l + r + 2 → ⊥)
    → allowed p (Intersect l r) ins outs ≡ false
other-number p l r ins outs h =
    let t = tree_term (port_label outs 0).tree in let d = tree_level (port_label outs 0).tree in
    let m = tree_mask (port_label ins 0).tree in let n = tree_mask (port_label ins (suc l)).tree in
    let xs = attr_numbers (take l (drop 1 ins)) in let ys = attr_numbers (drop 1 (drop l (drop 1 ins))) in
    let us = met_labels p t d m xs in let vs = met_labels p t d n ys in
    refuses (is_term p t) (eqb l (length xs)) (eqb r (length ys)) (ports_allow (just_these (us ++ vs)) ins)
    (same_labels outs (met_labels p t d (bit_or m n) (xs ++ ys)))
    (λ e f. sym (same-just ins (us ++ vs)) ∙ other-length ins (us ++ vs) (λ long. h (long ∙ sums p t d m n l r xs ys (eqb-true l (length xs) e) (eqb-true r (length ys) f))))
  where
    sums : (p : Program) (t d m n l r : ℕ) (xs ys : List ℕ) → l ≡ length xs → r ≡ length ys
        → length (met_labels p t d m xs ++ met_labels p t d n ys) ≡ l + r + 2
    sums p t d m n l r xs ys e f =
        let us = met_labels p t d m xs in let vs = met_labels p t d n ys in
        let first : length us ≡ suc (length xs) = ap suc (length-map xs (λ k. product_label p t d m (Rank k))) in
        let second : length vs ≡ suc (length ys) = ap suc (length-map ys (λ k. product_label p t d n (Rank k))) in
        let both : length (us ++ vs) ≡ length us + length vs = length-append us vs in
        omega (arith, e, f, first, second, both)

is-number : (a b : ℕ) → a ≡ b → eqb a b ≡ true
is-number a b e = grind (arith, nat_tests, e)

accepts : (a b c d e f g : Bool) → b ≡ true → c ≡ true → d ≡ (e && f) → (a && ((e && f) && g)) ≡ ((a && (b && c)) && (d && g))
accepts true true true d e f g x y z = ap (λ (w : Bool). w && g) (sym z)
accepts false b c d e f g x y z = refl
accepts true false c d e f g x y z = absurd (cc)
accepts true true false d e f g x y z = absurd (cc)

-- where they are so many, each side is looked at alone
pub sides-apart : (p : Program) (l r n : ℕ) (ins outs : List Label) → length ins ≡ l + r + 2 →
    n ≡ tree_mask (port_label (drop (suc l) ins) 0).tree →
    let t = tree_term (port_label outs 0).tree in let d = tree_level (port_label outs 0).tree in
    let m = tree_mask (port_label (take (suc l) ins) 0).tree in
    let xs = attr_numbers (drop 1 (take (suc l) ins)) in let ys = attr_numbers (drop 1 (drop (suc l) ins)) in
    (is_term p t && ((same_labels (take (suc l) ins) (met_labels p t d m xs) && same_labels (drop (suc l) ins) (met_labels p t d n ys))
    && same_labels outs (met_labels p t d (bit_or m n) (xs ++ ys))))
    ≡ allowed p (Intersect l r) ins outs
sides-apart p l r n [] outs long e = absurd (omega (arith, long))
sides-apart p l r n (c ∷ ls) outs long e =
    let t = tree_term (port_label outs 0).tree in let d = tree_level (port_label outs 0).tree in
    let m = tree_mask c.tree in let n2 = tree_mask (port_label ls l).tree in
    let xs = attr_numbers (take l ls) in let ys = attr_numbers (drop 1 (drop l ls)) in
    let us = met_labels p t d m xs in let vs = met_labels p t d n2 ys in
    let there : l ≤ length ls = omega (arith, long) in
    let front : length (take l ls) ≡ l = length-take-le l ls there in
    let back : length (drop 1 (drop l ls)) ≡ length ls - l - 1 = length-drop 1 (drop l ls) ∙ ap (λ (k : ℕ). k - 1) (length-drop l ls) in
    let these : length xs ≡ l = length-map (take l ls) (λ k. attr_number k.attr) ∙ front in
    let those : length ys ≡ length ls - l - 1 = length-map (drop 1 (drop l ls)) (λ k. attr_number k.attr) ∙ back in
    let wide : length us ≡ suc (length xs) = ap suc (length-map xs (λ k. product_label p t d m (Rank k))) in
    let as_wide : length (c ∷ take l ls) ≡ length us = omega (arith, front, these, wide) in
    let parts : ports_allow (just_these (us ++ vs)) (c ∷ ls) ≡ (same_labels (c ∷ take l ls) us && same_labels (drop l ls) vs) =
    sym (same-just (c ∷ ls) (us ++ vs))
    ∙ ap (λ (ks : List Label). same_labels (c ∷ ks) (us ++ vs)) (sym (take-append-drop l ls))
    ∙ same-parts (c ∷ take l ls) (drop l ls) us vs as_wide in
    let mask : n ≡ n2 =
    e ∙ ap (λ (k : Label). tree_mask k.tree) (get_or-drop l ls 0 no_label ∙ ap (λ (i : ℕ). get_or ls i no_label) (omega arith)) in
    rw mask
    (accepts (is_term p t) (eqb l (length xs)) (eqb r (length ys)) (ports_allow (just_these (us ++ vs)) (c ∷ ls))
    (same_labels (c ∷ take l ls) us) (same_labels (drop l ls) vs) (same_labels outs (met_labels p t d (bit_or m n2) (xs ++ ys)))
    (is-number l (length xs) (sym these)) (is-number r (length ys) (omega (arith, long, those))) parts)
