-- The blocks of one level of a term's loops keep to the rules, and their outputs have the labels of the level.
use Rattle.std.specs.Prelude.{◌≡◌, ◌<◌, ◌≤◌, ℕ, suc, ◌+◌, Bool, true, false, List, [], ◌∷◌, ◌++◌, length, get_or}
use Rattle.std.specs.List.{range_with_len}
use mathlib.Core.List.{map}
use Rattle.std.proofs.Common.{arith, sym, ◌∙◌, subst, append_assoc, append-nil, length-append}
use Rattle.std.proofs.lemmas.List.{length-map}
use Rattle.stream_tokens.specs.Shapes.{Each}
use Rattle.stream_model.specs.declared.labels.Attr.TheVariants.{Coordinate, Rank}
use Rattle.stream_model.specs.declared.labels.Label.{Label}
use Rattle.custard_lower.specs.declared.drafts.Made.{Made}
use Rattle.custard_lower.specs.declared.trees.TermTrees.{TermTrees}
use Rattle.label_rules.specs.declared.plans.Plan.{Plan}
use Rattle.custard_lower.specs.Drafts.{outputs_of}
use Rattle.label_rules.specs.Plans.{has_loop, asked}
use Rattle.label_rules.specs.Holding.{Rules}
use Rattle.custard_lower.specs.Nests.{Met, product_tree_label, head_labels, scan, intersect, repeat, met_with, all_met}
use Rattle.custard_lower.proofs.draft.Emitted.{Stands, AllStand, Sound, Extends, extends-same, extends-more, extends-both, stands-on, all-stand-append, all-stand-new, sound-emit, outputs-emit}
use Rattle.custard_lower.proofs.term.TermAllowed.{LevelAllowed}

module _ (rules : Rules) (trees : TermTrees) (t : Plan) where
  -- each factor's references have such a label
  abbrev pub Refer : List Made → (ℕ → Label) → List ℕ → Type 0
  Refer made reference references = (f : ℕ) → f < length t.accesses → Stands made (get_or references f 0) (reference f)

  -- references stand in each draft that extends theirs
  pub refer-on : (made made' : List Made) (reference : ℕ → Label) (references : List ℕ) → Extends made made'
      → Refer made reference references → Refer made' reference references
  refer-on made made' reference references e x f l = stands-on made made' _ _ e (x f l)

  -- these factors have the loop after d others, or lack it
  abbrev pub Haves : Bool → ℕ → List ℕ → Type 0
  Haves b d fs = Each (λ f. (has_loop t d f ≡ b) × (f < length t.accesses)) fs

  module _ (reference : ℕ → Label) (d : ℕ) (may : LevelAllowed rules trees t reference d) where
    -- ---- scanners

    -- from output w on stand the coordinates and references of these factors, each scanned alone
    abbrev pub Scanned : List Made → ℕ → List ℕ → Type 0
    Scanned made w [] = Unit {0}
    Scanned made w (f ∷ fs) =
        Stands made w (product_tree_label trees (suc d) (f ∷ []) Coordinate)
        × Stands made (w + 1) (product_tree_label trees (suc d) (f ∷ []) (Rank f))
        × Scanned made (w + 2) fs

    -- what is scanned stands in each draft that extends its own
    pub scanned-on : (made made' : List Made) (w : ℕ) (fs : List ℕ) → Extends made made' → Scanned made w fs → Scanned made' w fs
    scanned-on made made' w [] e x = tt
    scanned-on made made' w (f ∷ fs) e x =
        (stands-on made made' _ _ e x.0, stands-on made made' _ _ e x.1, scanned-on made made' (w + 2) fs e x.2)

    -- scanners of factors that have the loop are sound, and their coordinates and references stand
    pub scans-sound : (references : List ℕ) (made : List Made) (fs : List ℕ) → Sound rules made → Refer made reference references
        → Haves true d fs
        → Sound rules (made ++ map (scan trees t d references) fs)
        × Scanned (made ++ map (scan trees t d references) fs) (outputs_of made) fs
    scans-sound references made [] sound refer haves = (subst (Sound rules) (sym (append-nil made)) sound, tt)
    scans-sound references made (f ∷ fs) sound refer haves =
        let b = scan trees t d references f in
        let made' = made ++ b ∷ [] in
        let sound' : Sound rules made' =
        sound-emit rules made b (reference f ∷ []) sound (refer f haves.0.1, tt) (may.scan f haves.0.1 haves.0.0) in
        let new = all-stand-new made b in
        let rest = scans-sound references made' fs sound' (refer-on made made' reference references (extends-more made (b ∷ [])) refer) haves.1 in
        let on = extends-more made' (map (scan trees t d references) fs) in
        let same : made' ++ map (scan trees t d references) fs ≡ made ++ map (scan trees t d references) (f ∷ fs) =
        append_assoc made (b ∷ []) (map (scan trees t d references) fs) in (
          subst (Sound rules) same rest.0,
          subst (λ (x : List Made). Scanned x (outputs_of made) (f ∷ fs)) same (
            stands-on made' _ _ _ on new.0,
            stands-on made' _ _ _ on new.1.0,
            subst (λ (w : ℕ). Scanned (made' ++ map (scan trees t d references) fs) w fs) (outputs-emit made b) rest.1,
          ),
        )

    -- ---- intersecters

    -- what is met has the coordinates and the references of its factors
    pub record MetStands (made : List Made) (met : Met) : Type 0 where
      pub coordinates : Stands made met.coordinates (product_tree_label trees (suc d) met.factors Coordinate)
      pub references : AllStand made met.references (map (λ f. product_tree_label trees (suc d) met.factors (Rank f)) met.factors)

    meeting_stands : (made : List Made) (met : Met) (f w : ℕ)
        → MetStands (made ++ intersect trees t d met f w ∷ []) (met_with trees t met f (outputs_of made))
    meeting_stands made met f w =
        let b = intersect trees t d met f w in
        let fs = met.factors ++ f ∷ [] in
        let new = all-stand-new made b in
        let many : length (map (λ h. product_tree_label trees (suc d) fs (Rank h)) fs) ≡ suc (length met.factors) =
        let a = length-append met.factors (f ∷ []) in
        let e = length-map fs (λ h. product_tree_label trees (suc d) fs (Rank h)) in
        omega (arith, a, e) in
        let first : outputs_of made + 1 ≡ suc (outputs_of made) = omega arith in
        record {
          coordinates = new.0;
          references =
              subst (λ (n : ℕ). AllStand (made ++ b ∷ []) (range_with_len (suc (outputs_of made)) n)
              (map (λ h. product_tree_label trees (suc d) fs (Rank h)) fs)) many
              (subst (λ (x : ℕ). AllStand (made ++ b ∷ [])
              (range_with_len x (length (map (λ h. product_tree_label trees (suc d) fs (Rank h)) fs)))
              (map (λ h. product_tree_label trees (suc d) fs (Rank h)) fs)) first new.1);
        }

    intersect_sound : (made : List Made) (met : Met) (w f : ℕ) (fs : List ℕ) → Sound rules made → MetStands made met
        → Scanned made w (f ∷ fs) → length met.factors + 1 ≤ length t.accesses → Sound rules (made ++ intersect trees t d met f w ∷ [])
    intersect_sound made met w f fs sound x scans few =
        let next : w + 1 ≡ suc w = omega arith in
        sound-emit rules made (intersect trees t d met f w)
        (head_labels trees t (suc d) met.factors ++ head_labels trees t (suc d) (f ∷ [])) sound
        (all-stand-append made (met.coordinates ∷ met.references) (w ∷ suc w ∷ []) (head_labels trees t (suc d) met.factors)
        (head_labels trees t (suc d) (f ∷ [])) (x.coordinates, x.references) (
          scans.0,
          (subst (λ (v : ℕ). Stands made v (product_tree_label trees (suc d) (f ∷ []) (Rank f))) next scans.1, tt),
        ))
        (may.intersect met.factors f few)

    -- all of these factors are met
    pub record AllMet (made : List Made) (met : Met) (fs : List ℕ) (made' : List Made) (met' : Met) : Type 0 where
      pub sound : Sound rules made'
      pub stands : MetStands made' met'
      pub factors : met'.factors ≡ met.factors ++ fs
      pub extends : Extends made made'

    -- all scanned factors are met, one after another
    pub intersects-sound : (made : List Made) (met : Met) (w : ℕ) (fs : List ℕ) → Sound rules made → MetStands made met
        → Scanned made w fs → length met.factors + length fs ≤ length t.accesses
        → AllMet made met fs (all_met trees t d made met w fs).made (all_met trees t d made met w fs).met
    intersects-sound made met w [] sound x scans few =
        record { sound = sound; stands = x; factors = sym (append-nil met.factors); extends = extends-same made }
    intersects-sound made met w (f ∷ fs) sound x scans few =
        let b = intersect trees t d met f w in
        let made' = made ++ b ∷ [] in
        let met' = met_with trees t met f (outputs_of made) in
        let on = extends-more made (b ∷ []) in
        let two : w + 2 ≡ suc (suc w) = omega arith in
        let many : length met'.factors + length fs ≤ length t.accesses = let a = length-append met.factors (f ∷ []) in omega (arith, a, few) in
        let rest = intersects-sound made' met' (suc (suc w)) fs (intersect_sound made met w f fs sound x scans (omega (arith, few)))
        (meeting_stands made met f w) (subst (λ (v : ℕ). Scanned made' v fs) two (scanned-on made made' (w + 2) fs on scans.2)) many in
        record {
          sound = rest.sound;
          stands = rest.stands;
          factors = rest.factors ∙ append_assoc met.factors (f ∷ []) fs;
          extends = extends-both made made' _ on rest.extends;
        }

    -- ---- repeaters

    -- repeaters of factors that lack the loop are sound, and their references stand
    pub repeats-sound : (coordinates : ℕ) (references : List ℕ) (made : List Made) (fs : List ℕ) → Sound rules made
        → Stands made coordinates (product_tree_label trees (suc d) (asked t d) Coordinate) → Refer made reference references
        → Haves false d fs
        → Sound rules (made ++ map (repeat trees t d coordinates references) fs)
        × AllStand (made ++ map (repeat trees t d coordinates references) fs) (range_with_len (outputs_of made) (length fs))
        (map (λ f. product_tree_label trees (suc d) (asked t d) (Rank f)) fs)
    repeats-sound coordinates references made [] sound stands refer haves = (subst (Sound rules) (sym (append-nil made)) sound, tt)
    repeats-sound coordinates references made (f ∷ fs) sound stands refer haves =
        let b = repeat trees t d coordinates references f in
        let made' = made ++ b ∷ [] in
        let sound' : Sound rules made' =
        sound-emit rules made b (product_tree_label trees (suc d) (asked t d) Coordinate ∷ reference f ∷ []) sound
        (stands, (refer f haves.0.1, tt)) (may.repeat f haves.0.1 haves.0.0) in
        let on = extends-more made (b ∷ []) in
        let new = all-stand-new made b in
        let rest = repeats-sound coordinates references made' fs sound' (stands-on made made' _ _ on stands)
        (refer-on made made' reference references on refer) haves.1 in
        let same : made' ++ map (repeat trees t d coordinates references) fs ≡ made ++ map (repeat trees t d coordinates references) (f ∷ fs) =
        append_assoc made (b ∷ []) (map (repeat trees t d coordinates references) fs) in (
          subst (Sound rules) same rest.0,
          subst (λ (x : List Made). AllStand x (range_with_len (outputs_of made) (length (f ∷ fs)))
              (map (λ f. product_tree_label trees (suc d) (asked t d) (Rank f)) (f ∷ fs))) same (
                stands-on made' _ _ _ (extends-more made' (map (repeat trees t d coordinates references) fs)) new.0,
                subst (λ (w : ℕ). AllStand (made' ++ map (repeat trees t d coordinates references) fs) (range_with_len w (length fs))
                    (map (λ f. product_tree_label trees (suc d) (asked t d) (Rank f)) fs)) (outputs-emit made b) rest.1,
              ),
        )
