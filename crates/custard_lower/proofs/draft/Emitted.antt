-- Drafts that grow block by block: a label that stands on an output stays there, and a block whose labels the rules allow keeps
-- the draft within the rules, whatever these are.
use Rattle.std.specs.Prelude.{◌≡◌, ◌<◌, ◌≤◌, ◌⊎◌, ℕ, zero, suc, ◌+◌, Bool, true, false, List, [], ◌∷◌, ◌++◌, length, get_or, refl}
use Rattle.std.specs.List.{All, range_with_len}
use mathlib.Core.List.{map}
use Rattle.std.proofs.Common.{arith, sym, ◌∙◌, ap, subst, append_assoc, append-nil, length-append, get_or-append-add, inl, inr}
use Rattle.std.proofs.lemmas.Bool.{cases_eq}
use lib.ListN.{get_or-append}
use lib.Seq.{get_or-append_seam}
use Rattle.stream_model.specs.declared.labels.Label.{Label}
use Rattle.graph.specs.declared.graphs.Kind.{Kind}
use Rattle.graph.specs.declared.graphs.Kind.TheVariants.{WriteLevel, WriteValue}
use Rattle.custard_lower.specs.declared.drafts.Made.{Made}
use Rattle.custard_lower.specs.Drafts.{labels_of, outputs_of, label_at}
use Rattle.label_rules.specs.Labels.{no_label, IsOneOf}
use Rattle.label_rules.specs.Holding.{Rules}

-- ---- labels of a longer draft

-- the labels of a longer draft are those of its parts
pub labels-append : (made more : List Made) → labels_of (made ++ more) ≡ labels_of made ++ labels_of more
labels-append [] more = refl
labels-append (m ∷ made) more =
    ap (λ (x : List Label). m.labels ++ x) (labels-append made more)
    ∙ sym (append_assoc m.labels (labels_of made) (labels_of more))

-- so are its outputs, in number
pub outputs-append : (made more : List Made) → outputs_of (made ++ more) ≡ outputs_of made + outputs_of more
outputs-append made more = ap length (labels-append made more) ∙ length-append (labels_of made) (labels_of more)

-- a block more has an output for each label
pub outputs-emit : (made : List Made) (m : Made) → outputs_of (made ++ m ∷ []) ≡ outputs_of made + length m.labels
outputs-emit made m =
    outputs-append made (m ∷ []) ∙ ap (λ (x : List Label). outputs_of made + length x) (append-nil m.labels)

-- ---- drafts that extend others

-- whether a block writes a level or the values
abbrev pub is_writer : Kind → Bool
is_writer (WriteLevel level) = true
is_writer WriteValue = true
is_writer other = false

-- the second draft is the first, and more
abbrev pub Extends : List Made → List Made → Type 0
Extends made made' = (more : List Made) × (made' ≡ made ++ more)

-- a draft extends itself
pub extends-same : (made : List Made) → Extends made made
extends-same made = ([], sym (append-nil made))

-- with blocks after it, it is extended
pub extends-more : (made more : List Made) → Extends made (made ++ more)
extends-more made more = (more, refl)

-- what extends an extension extends the draft
pub extends-both : (made made' made'' : List Made) → Extends made made' → Extends made' made'' → Extends made made''
extends-both made made' made'' e f =
    (e.0 ++ f.0, f.1 ∙ ap (λ (m : List Made). m ++ f.0) e.1 ∙ append_assoc made e.0 f.0)

-- ---- what stands on the outputs of a draft

-- output w is there, and has this label
pub record Stands (made : List Made) (w : ℕ) (l : Label) : Type 0 where
  pub there : w < outputs_of made
  pub label_is : label_at made w ≡ l

-- it has one of these
abbrev pub OneStands : List Made → ℕ → List Label → Type 0
OneStands made w ls = (l : Label) × (Stands made w l) × IsOneOf l ls

-- each of these outputs is there and has its label
abbrev pub AllStand : List Made → List ℕ → List Label → Type 0
AllStand made [] [] = Unit {0}
AllStand made [] (l ∷ ls) = ⊥
AllStand made (w ∷ ws) [] = ⊥
AllStand made (w ∷ ws) (l ∷ ls) = Stands made w l × AllStand made ws ls

label_more : (made more : List Made) (w : ℕ) → w < outputs_of made → label_at (made ++ more) w ≡ label_at made w
label_more made more w l =
    ap (λ (ls : List Label). get_or ls w no_label) (labels-append made more) ∙ get_or-append (labels_of made) (labels_of more) no_label w l

-- what stands in a draft stands in one with more blocks
pub stands-more : (made more : List Made) (w : ℕ) (l : Label) → Stands made w l → Stands (made ++ more) w l
stands-more made more w l x = record {
  there = let e = outputs-append made more in let i = x.there in omega (arith, e, i);
  label_is = label_more made more w x.there ∙ x.label_is;
}

-- what stands in a draft stands in each that extends it
pub stands-on : (made made' : List Made) (w : ℕ) (l : Label) → Extends made made' → Stands made w l → Stands made' w l
stands-on made made' w l e x = subst (λ (m : List Made). Stands m w l) (sym e.1) (stands-more made e.0 w l x)

-- so does one of some labels
pub one-stands-on : (made made' : List Made) (w : ℕ) (ls : List Label) → Extends made made' → OneStands made w ls
    → OneStands made' w ls
one-stands-on made made' w ls e x = (x.0, stands-on made made' w x.0 e x.1, x.2)

-- and so do all that stand
pub all-stand-on : (made made' : List Made) (ws : List ℕ) (ls : List Label) → Extends made made' → AllStand made ws ls
    → AllStand made' ws ls
all-stand-on made made' [] [] e x = tt
all-stand-on made made' [] (l ∷ ls) e x = absurd x
all-stand-on made made' (w ∷ ws) [] e x = absurd x
all-stand-on made made' (w ∷ ws) (l ∷ ls) e x = (stands-on made made' w l e x.0, all-stand-on made made' ws ls e x.1)

-- the i-th output of the block that is made next
pub stands-new : (made : List Made) (m : Made) (i : ℕ) → i < length m.labels
    → Stands (made ++ m ∷ []) (outputs_of made + i) (get_or m.labels i no_label)
stands-new made m i l = record {
  there = let e = outputs-emit made m in omega (arith, e, l);
  label_is =
      ap (λ (ls : List Label). get_or ls (outputs_of made + i) no_label) (labels-append made (m ∷ []))
      ∙ get_or-append-add (labels_of made) (m.labels ++ []) i no_label
      ∙ get_or-append m.labels [] no_label i l;
}

-- where two lists of labels stand, so do both in one
pub all-stand-append : (made : List Made) (ws vs : List ℕ) (ls ks : List Label) → AllStand made ws ls → AllStand made vs ks
    → AllStand made (ws ++ vs) (ls ++ ks)
all-stand-append made [] vs [] ks x y = y
all-stand-append made [] vs (l ∷ ls) ks x y = absurd x
all-stand-append made (w ∷ ws) vs [] ks x y = absurd x
all-stand-append made (w ∷ ws) vs (l ∷ ls) ks x y = (x.0, all-stand-append made ws vs ls ks x.1 y)

-- all outputs of the block that is made next
pub all-stand-new : (made : List Made) (m : Made)
    → AllStand (made ++ m ∷ []) (range_with_len (outputs_of made) (length m.labels)) m.labels
all-stand-new made m =
    subst (λ (w : ℕ). AllStand (made ++ m ∷ []) (range_with_len w (length m.labels)) m.labels) (omega arith) (from [] m.labels refl)
  where
    from : (before labels : List Label) → m.labels ≡ before ++ labels
        → AllStand (made ++ m ∷ []) (range_with_len (outputs_of made + length before) (length labels)) labels
    from before [] e = tt
    from before (l ∷ labels) e =
        let n = ap length e ∙ length-append before (l ∷ labels) in
        let next : outputs_of made + length (before ++ l ∷ []) ≡ outputs_of made + length before + 1 =
        let a = length-append before (l ∷ []) in omega (arith, a) in (
          subst (λ (k : Label). Stands (made ++ m ∷ []) (outputs_of made + length before) k)
              (ap (λ (ls : List Label). get_or ls (length before) no_label) e ∙ get_or-append_seam before l labels no_label)
              (stands-new made m (length before) (omega (arith, n))),
          subst (λ (w : ℕ). AllStand (made ++ m ∷ []) (range_with_len w (length labels)) labels) next
              (from (before ++ l ∷ []) labels (e ∙ sym (append_assoc before (l ∷ []) labels))),
        )

-- where something holds at the outputs of a list, and of the next at one more
pub holds-snoc : (P : ℕ → ℕ → Type 0) (ws : List ℕ) (w n : ℕ) → length ws ≡ n
    → ((k : ℕ) → k < n → P (get_or ws k 0) k) → P w n → (k : ℕ) → k < suc n → P (get_or (ws ++ w ∷ []) k 0) k
holds-snoc P ws w n e early late k l = by_place (cases_eq k n)
  where
    by_place : (k ≡ n) ⊎ (k ≡ n → ⊥) → P (get_or (ws ++ w ∷ []) k 0) k
    by_place (inl same) =
        subst (λ (v : ℕ). P v k) (sym (ap (λ (i : ℕ). get_or (ws ++ w ∷ []) i 0) (same ∙ sym e) ∙ get_or-append_seam ws w [] 0))
        (subst (λ (i : ℕ). P w i) (sym same) late)
    by_place (inr other) =
        let j : k < n = omega (arith, l, other) in
        subst (λ (v : ℕ). P v k) (sym (get_or-append ws (w ∷ []) 0 k (omega (arith, e, j)))) (early k j)

all_at : (made : List Made) (ws : List ℕ) (ls : List Label) → AllStand made ws ls → map (label_at made) ws ≡ ls
all_at made [] [] x = refl
all_at made [] (l ∷ ls) x = absurd x
all_at made (w ∷ ws) [] x = absurd x
all_at made (w ∷ ws) (l ∷ ls) x = rw (x.0.label_is, all_at made ws ls x.1) refl

all_there : (made : List Made) (ws : List ℕ) (ls : List Label) → AllStand made ws ls → All (λ w. w < outputs_of made) ws
all_there made [] [] x k d l = absurd (omega (arith, l))
all_there made [] (s ∷ ls) x k d l = absurd x
all_there made (w ∷ ws) [] x k d l = absurd x
all_there made (w ∷ ws) (s ∷ ls) x zero d l = x.0.there
all_there made (w ∷ ws) (s ∷ ls) x (suc k) d l = all_there made ws ls x.1 k d (omega (arith, l))

-- ---- drafts within the rules

-- the rules, and no writer
abbrev pub Unwritten : Rules → Rules
Unwritten rules k ins outs = rules k ins outs × (is_writer k ≡ false)

module _ (rules : Rules) where
  -- A block reads outputs that are made before its own, which are counted from base, and the rules allow its labels.
  pub record RuledBlock (labels : ℕ → Label) (base : ℕ) (m : Made) : Type 0 where
    pub earlier : All (λ w. w < base) m.ins
    pub allowed : rules m.kind (map labels m.ins) m.labels

  -- each block of a part of a draft whose outputs have these labels
  abbrev pub Ruled : (ℕ → Label) → ℕ → List Made → Type 0
  Ruled labels base [] = Unit {0}
  Ruled labels base (m ∷ made) = RuledBlock labels base m × Ruled labels (base + length m.labels) made

  -- each block of a draft
  abbrev pub Sound : List Made → Type 0
  Sound made = Ruled (label_at made) 0 made

  map_more : (made more : List Made) (ws : List ℕ) (base : ℕ) → base ≤ outputs_of made → All (λ w. w < base) ws
      → map (label_at made) ws ≡ map (label_at (made ++ more)) ws
  map_more made more [] base b e = refl
  map_more made more (w ∷ ws) base b e =
      let l = e 0 w (omega arith) in
      rw (
        label_more made more w (omega (arith, l, b)),
        map_more made more ws base b (λ k d m. e (suc k) d (omega (arith, m))),
      ) refl

  ruled_more : (made more : List Made) (base : ℕ) (part : List Made) → base + outputs_of part ≤ outputs_of made
      → Ruled (label_at made) base part → Ruled (label_at (made ++ more)) base part
  ruled_more made more base [] l x = tt
  ruled_more made more base (m ∷ part) l x =
      let e = length-append m.labels (labels_of part) in (
        record {
          earlier = x.0.earlier;
          allowed = subst (λ (ls : List Label). rules m.kind ls m.labels)
              (map_more made more m.ins base (omega (arith, e, l)) x.0.earlier) x.0.allowed;
        },
        ruled_more made more (base + length m.labels) part (omega (arith, e, l)) x.1,
      )

  ruled_append : (labels : ℕ → Label) (base : ℕ) (part more : List Made) → Ruled labels base part
      → Ruled labels (base + outputs_of part) more → Ruled labels base (part ++ more)
  ruled_append labels base [] more x y =
      let e : base + outputs_of [] ≡ base = omega arith in subst (λ n. Ruled labels n more) e y
  ruled_append labels base (m ∷ part) more x y =
      let a = length-append m.labels (labels_of part) in
      let e : base + outputs_of (m ∷ part) ≡ base + length m.labels + outputs_of part = omega (arith, a) in
      (x.0, ruled_append labels (base + length m.labels) part more x.1 (subst (λ n. Ruled labels n more) e y))

  -- one block more, whose labels the rules allow with what stands on the outputs that it reads
  pub sound-emit : (made : List Made) (m : Made) (ls : List Label) → Sound made → AllStand made m.ins ls
      → rules m.kind ls m.labels → Sound (made ++ m ∷ [])
  sound-emit made m ls x stand allowed =
      let earlier = all_there made m.ins ls stand in
      ruled_append (label_at (made ++ m ∷ [])) 0 made (m ∷ []) (ruled_more made (m ∷ []) 0 made (omega arith) x) (
        record {
          earlier = (λ k d l. let b = earlier k d l in omega (arith, b));
          allowed = subst (λ (s : List Label). rules m.kind s m.labels)
              (sym (all_at made m.ins ls stand) ∙ map_more made (m ∷ []) m.ins (outputs_of made) (omega arith) earlier) allowed;
        },
        tt,
      )

-- what other rules allow, too
pub ruled-by-others : (rules others : Rules) → ((k : Kind) (ins outs : List Label) → rules k ins outs → others k ins outs)
    → (labels : ℕ → Label) (base : ℕ) (made : List Made) → Ruled rules labels base made → Ruled others labels base made
ruled-by-others rules others h labels base [] x = tt
ruled-by-others rules others h labels base (m ∷ made) x =
    (record { earlier = x.0.earlier; allowed = h m.kind (map labels m.ins) m.labels x.0.allowed }, ruled-by-others rules others h labels (base + length m.labels) made x.1)
