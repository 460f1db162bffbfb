-- The blocks of a term's values keep to the rules, and in the end stand its values.
use Rattle.std.specs.Prelude.{◌≡◌, ◌<◌, ℕ, zero, suc, ◌+◌, ◌-◌, List, [], ◌∷◌, ◌++◌, length, Option, Some, None, refl}
use Rattle.std.specs.List.{range_with_len}
use mathlib.Core.List.{map}
use Rattle.std.proofs.Common.{arith, sym, ◌∙◌, subst, append_assoc, append-nil, inl, inr}
use Rattle.std.proofs.lemmas.List.FromFn.{length-range_with_len}
use Rattle.sam_model.specs.Lists.{below}
use Rattle.stream_model.specs.declared.labels.Attr.{Attr}
use Rattle.stream_model.specs.declared.labels.Attr.TheVariants.{FactorValue, Partial, Whole, Literal}
use Rattle.stream_model.specs.declared.labels.Label.{Label}
use Rattle.stream_model.proofs.Numbers.{AllBelow}
use Rattle.custard_lower.specs.declared.drafts.Made.{Made}
use Rattle.custard_lower.specs.declared.trees.TermTrees.{TermTrees}
use Rattle.label_rules.specs.declared.plans.Plan.{Plan}
use Rattle.custard_lower.specs.Drafts.{outputs_of}
use Rattle.label_rules.specs.Holding.{Rules}
use Rattle.custard_lower.specs.Values.{Valued, full_label, array, product, multiplied, constant, scaling, scaled, valued}
use Rattle.custard_lower.proofs.draft.Emitted.{Stands, OneStands, AllStand, Sound, Extends, extends-more, extends-both, stands-on, all-stand-on, all-stand-new, sound-emit, outputs-emit}
use Rattle.custard_lower.proofs.term.TermAllowed.{product_labels, ValuesAllowed}
use Rattle.custard_lower.proofs.term.LevelSound.{Refer, refer-on}

module _ (rules : Rules) (trees : TermTrees) (t : Plan) where
  -- the label of what is told below all loops
  abbrev full : Attr → Label
  full a = full_label trees t a

  module _ (reference : ℕ → Label) (values : List Label) (may : ValuesAllowed rules trees t reference values) where
    -- the values of a term so far have one of these labels, and what was there before them stays
    pub record ValueStands (made : List Made) (ls : List Label) (v : Valued) : Type 0 where
      pub sound : Sound rules v.made
      pub stands : OneStands v.made v.values ls
      pub extends : Extends made v.made

    -- ---- arrays

    arrays_sound : (references : List ℕ) (made : List Made) (fs : List ℕ) → Sound rules made
        → Refer rules trees t made reference references → AllBelow (length t.accesses) fs
        → Sound rules (made ++ map (array trees t references) fs)
        × AllStand (made ++ map (array trees t references) fs) (range_with_len (outputs_of made) (length fs))
        (map (λ f. full (FactorValue f)) fs)
    arrays_sound references made [] sound refer below = (subst (Sound rules) (sym (append-nil made)) sound, tt)
    arrays_sound references made (f ∷ fs) sound refer below =
        let b = array trees t references f in
        let made' = made ++ b ∷ [] in
        let sound' : Sound rules made' = sound-emit rules made b (reference f ∷ []) sound (refer f below.0, tt) (may.array f below.0) in
        let new = all-stand-new made b in
        let rest = arrays_sound references made' fs sound'
        (refer-on rules trees t made made' reference references (extends-more made (b ∷ [])) refer) below.1 in
        let same : made' ++ map (array trees t references) fs ≡ made ++ map (array trees t references) (f ∷ fs) =
        append_assoc made (b ∷ []) (map (array trees t references) fs) in (
          subst (Sound rules) same rest.0,
          subst (λ (x : List Made). AllStand x (range_with_len (outputs_of made) (length (f ∷ fs))) (map (λ f. full (FactorValue f)) (f ∷ fs))) same (
            stands-on made' _ _ _ (extends-more made' (map (array trees t references) fs)) new.0,
            subst (λ (w : ℕ). AllStand (made' ++ map (array trees t references) fs) (range_with_len w (length fs))
                (map (λ f. full (FactorValue f)) fs)) (outputs-emit made b) rest.1,
          ),
        )

    -- ---- products

    -- the values of c more factors, from output w on
    multiplied_sound : (v : Valued) (w k c : ℕ) (made : List Made) → 0 < k → k + c ≡ length t.accesses
        → ValueStands made (product_labels rules trees t k) v
        → AllStand v.made (range_with_len w c) (map (λ f. full (FactorValue f)) (range_with_len k c))
        → ValueStands made (product_labels rules trees t (length t.accesses)) (multiplied trees t v w (range_with_len k c))
    multiplied_sound v w k zero made some e x values =
        subst (λ (n : ℕ). ValueStands made (product_labels rules trees t n) v) (omega (arith, e)) x
    multiplied_sound v w k (suc c) made some e x values =
        let b = product trees t k v.values w in
        let l = x.stands.0 in
        let sound' : Sound rules (v.made ++ b ∷ []) =
        sound-emit rules v.made b (l ∷ full (FactorValue k) ∷ []) x.sound (x.stands.1, (values.0, tt))
        (may.product k l some (omega (arith, e)) x.stands.2) in
        let on = extends-more v.made (b ∷ []) in
        let one : k + 1 ≡ suc k = omega arith in
        let next : w + 1 ≡ suc w = omega arith in
        let v' : Valued = record { made = v.made ++ b ∷ []; values = outputs_of v.made } in
        subst (λ (n : ℕ). ValueStands made (product_labels rules trees t (length t.accesses)) (multiplied trees t v' (suc w) (range_with_len n c)))
        (sym one)
        (multiplied_sound v' (suc w) (suc k) c made (omega arith) (omega (arith, e))
        (record {
          sound = sound';
          stands = (full (Partial (suc k)), (all-stand-new v.made b).0, inl refl);
          extends = extends-both made v.made _ x.extends on;
        })
        (subst (λ (n : ℕ). AllStand (v.made ++ b ∷ []) (range_with_len n c) (map (λ f. full (FactorValue f)) (range_with_len (suc k) c))) next
        (subst (λ (n : ℕ). AllStand (v.made ++ b ∷ []) (range_with_len (w + 1) c) (map (λ f. full (FactorValue f)) (range_with_len n c))) one
        (all-stand-on v.made _ _ _ on values.1))))

    -- ---- the coefficient

    scaled_sound : (c : Option ℕ) → t.coefficient ≡ c → (v : Valued) (made : List Made)
        → ValueStands made (product_labels rules trees t (length t.accesses)) v → ValueStands made values (scaled trees t c v)
    scaled_sound None is v made x =
        record { sound = x.sound; stands = (x.stands.0, x.stands.1, may.unscaled x.stands.0 is x.stands.2); extends = x.extends }
    scaled_sound (Some c) is v made x =
        let l = x.stands.0 in
        let b = constant trees t c v.values in
        let made1 = v.made ++ b ∷ [] in
        let w = outputs_of v.made in
        let sound1 : Sound rules made1 = sound-emit rules v.made b (l ∷ []) x.sound (x.stands.1, tt) (may.constant c l is x.stands.2) in
        let on1 = extends-more v.made (b ∷ []) in
        let b' = scaling trees t v.values w in
        let next : outputs_of made1 ≡ suc w = outputs-emit v.made b ∙ omega arith in
        record {
          sound =
              sound-emit rules made1 b' (l ∷ full (Literal c) ∷ []) sound1
              (stands-on v.made made1 _ _ on1 x.stands.1, ((all-stand-new v.made b).0, tt)) (may.scaling c l is x.stands.2);
          stands = (full Whole, subst (λ (k : ℕ). Stands (made1 ++ b' ∷ []) k (full Whole)) next (all-stand-new made1 b').0, may.whole);
          extends = extends-both made v.made _ x.extends (extends-both v.made made1 _ on1 (extends-more made1 (b' ∷ [])));
        }

    below_all : (a n : ℕ) → a + n ≡ length t.accesses → AllBelow (length t.accesses) (range_with_len a n)
    below_all a zero e = tt
    below_all a (suc n) e = (omega (arith, e), below_all (a + 1) n (omega (arith, e)))

    -- the values of a term, from the references of its factors below all loops
    pub valued-stands : 0 < length t.accesses → (made : List Made) (references : List ℕ) → Sound rules made
        → Refer rules trees t made reference references → ValueStands made values (valued trees t made references)
    valued-stands some made references sound refer = from (length t.accesses) refl
      where
        w : ℕ
        w = outputs_of made

        of_so_many : ℕ → ℕ → Valued
        of_so_many q r =
            multiplied trees t (record { made = made ++ map (array trees t references) (range_with_len 0 q); values = w })
            (suc w) (range_with_len 1 r)

        from : (q : ℕ) → q ≡ length t.accesses → ValueStands made values (scaled trees t t.coefficient (of_so_many q (q - 1)))
        from zero e = absurd (omega (arith, e, some))
        from (suc n) e =
            let made1 = made ++ map (array trees t references) (range_with_len 0 (suc n)) in
            let v : Valued = record { made = made1; values = w } in
            let arrays = arrays_sound references made (range_with_len 0 (suc n)) sound refer (below_all 0 (suc n) (omega (arith, e))) in
            let next : w + 1 ≡ suc w = omega arith in
            let rest : n ≡ suc n - 1 = omega arith in
            let first : ValueStands made (product_labels rules trees t 1) v = record {
              sound = arrays.0;
              stands = (full (FactorValue 0), arrays.1.0, inr (inl refl));
              extends = extends-more made (map (array trees t references) (range_with_len 0 (suc n)));
            } in
            subst (λ (r : ℕ). ValueStands made values (scaled trees t t.coefficient (of_so_many (suc n) r))) rest
            (scaled_sound t.coefficient refl (of_so_many (suc n) n) made
            (multiplied_sound v (suc w) 1 n made (omega arith) (omega (arith, e)) first
            (subst (λ (x : ℕ). AllStand made1 (range_with_len x n) (map (λ f. full (FactorValue f)) (range_with_len 1 n))) next
            (subst (λ (c : ℕ). AllStand made1 (range_with_len (w + 1) c) (map (λ f. full (FactorValue f)) (range_with_len 1 n)))
            (length-range_with_len 1 n) arrays.1.1))))
