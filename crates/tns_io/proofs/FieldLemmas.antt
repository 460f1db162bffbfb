-- Entries, word by word.
use Rattle.std.proofs.Common.{◌≡◌, ℕ, suc, ◌-◌, ◌<◌, ◌≤◌, ◌&&◌, Bool, true, false, cond, List, [], ◌∷◌, length, Result, Ok, Err, refl, ap, arith, nat_le, eqb}
use Rattle.std.proofs.lemmas.Bool.{and_parts, leb-true, lt-ltb}
use Rattle.sam_base.specs.declared.faults.TnsKind.{TnsKind}
use Rattle.sam_base.specs.declared.faults.TnsKind.TheVariants.{FieldCount, CoordinateRange, BadField}
use Rattle.sam_model.specs.Lists.{within}
use Rattle.sam_text.specs.Numbers.{is_decimal, decimal}
use Rattle.tns_io.specs.Values.{word_coordinate, word_value}
use Rattle.tns_io.specs.Fields.{Entry, with_coordinate, with_value, fields_of, line_entry}

-- coordinates that fit the sizes of the modes
pub record FitsSizes (sizes cs : List ℕ) : Type 0 where
  pub many : length cs ≡ length sizes
  pub below : within sizes cs ≡ true

record Joined (r : Result ℕ TnsKind) (q : Result Entry TnsKind) (e : Entry) : Type 0 where
  c : ℕ
  f : Entry
  first : r ≡ Ok c
  rest : q ≡ Ok f
  parts : c ∷ f.0 ≡ e.0

joined : (r : Result ℕ TnsKind) (q : Result Entry TnsKind) (e : Entry) → with_coordinate r q ≡ Ok e → Joined r q e
joined (Err kind) q e h = cc
joined (Ok c) (Err kind) e h = cc
joined (Ok c) (Ok f) e h = record { c = c; f = f; first = refl; rest = refl; parts = ap (λ (r : Result Entry TnsKind). elim r as (λ r. List ℕ) [ Ok x ↦ x.0 | Err k ↦ [] ]) h }

alone : (r : Result ℕ TnsKind) (e : Entry) → with_value r ≡ Ok e → [] ≡ e.0
alone (Ok v) e h = ap (λ (r : Result Entry TnsKind). elim r as (λ r. List ℕ) [ Ok x ↦ x.0 | Err k ↦ 0 ∷ [] ]) h
alone (Err kind) e h = cc

below-step : (t u : Bool) (n c : ℕ) → cond t (cond u (Ok n) (Err CoordinateRange)) (Err BadField) ≡ Ok c → (u ≡ true) × (n ≡ c)
below-step true true n c h = (refl, cc)
below-step true false n c h = cc
below-step false u n c h = cc

coordinate-below : (size : ℕ) (w : List ℕ) (c : ℕ) → word_coordinate size w ≡ Ok c → c < size
coordinate-below size w c h =
    let s = below-step (is_decimal w) (nat_le 1 (decimal w) && nat_le (decimal w) size) (decimal w - 1) c h in
    let p = and_parts _ _ s.0 in
    let least : 1 ≤ decimal w = leb-true _ _ p.0 in
    let most : decimal w ≤ size = leb-true _ _ p.1 in
    omega (arith, s.1)

pub fields-fit : (sizes : List ℕ) (ws : List (List ℕ)) (e : Entry) → fields_of sizes ws ≡ Ok e → FitsSizes sizes e.0
fields-fit sizes [] e h = cc
fields-fit [] (w ∷ more) e h = let a = alone (word_value w) e h in rw (← a) (record { many = refl; below = refl })
fields-fit (size ∷ sizes) (w ∷ more) e h =
    let j = joined (word_coordinate size w) (fields_of sizes more) e h in
    let rest = fields-fit sizes more j.f j.rest in
    rw (← j.parts) (record {
      many = omega (arith, rest.many);
      below = rw (lt-ltb j.c size (coordinate-below size w j.c j.first)) rest.below;
    })

counted-step : (t : Bool) (r : Result Entry TnsKind) (e : Entry) → cond t r (Err FieldCount) ≡ Ok e → r ≡ Ok e
counted-step true r e h = h
counted-step false r e h = cc

pub entry-fits : (sizes : List ℕ) (ws : List (List ℕ)) (e : Entry) → line_entry sizes ws ≡ Ok e → FitsSizes sizes e.0
entry-fits sizes ws e h = fields-fit sizes ws e (counted-step (eqb (length ws) (suc (length sizes))) (fields_of sizes ws) e h)
