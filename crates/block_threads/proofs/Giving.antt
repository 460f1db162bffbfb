-- Blocks take the ends of their wires.
use Rattle.std.proofs.Common.{◌≡◌, ◌≢◌, ℕ, suc, ◌+◌, ◌<◌, ◌≤◌, List, [], ◌∷◌, ◌++◌, map, length, refl, sym, ap, ap₂, ◌∙◌, arith, ⊎_elim, length-append}
use Rattle.std.specs.Prelude.{Option, Some, slice_get, slice_index}
use Rattle.std.proofs.lemmas.Bool.{cases_lt}
use Rattle.graph.specs.declared.graphs.Graph.{Graph}
use Rattle.graph.specs.Wiring.{block, channel, into, out_of, WellFormed}
use Rattle.plays.proofs.Lists.{same_some}
use Rattle.ruled_wires.specs.Ends.{End, fresh_end}
use Rattle.block_threads.specs.Wires.{EndWaits, WaitFrom, HasWires}
use Rattle.block_threads.proofs.Taking.{at_back, in_front}

all_fresh : (cs : List ℕ) (es : List End) → length es ≡ length cs
    → ((p : ℕ) → p < length cs → slice_get es p ≡ Some (fresh_end (slice_index cs p))) → es ≡ map fresh_end cs
all_fresh [] [] number each = refl
all_fresh [] (e ∷ es) number each = absurd (omega arith)
all_fresh (c ∷ cs) [] number each = absurd (omega arith)
all_fresh (c ∷ cs) (e ∷ es) number each =
    let first : e ≡ fresh_end c = same_some e (fresh_end c) (each 0 (omega arith)) in
    let rest : es ≡ map fresh_end cs = all_fresh cs es (omega arith) (λ p less. each (suc p) (omega arith)) in
    ap₂ (λ x xs. x ∷ xs) first rest

abbrev pub FreshBelow : ℕ → List (Option End) → Type 0
FreshBelow n ends = (length ends ≡ n) × ((c : ℕ) → c < n → EndWaits ends c)

pub none_below : FreshBelow 0 []
none_below = (refl, λ c less. absurd (omega arith))

pub fresh_more : (n : ℕ) (ends news : List (Option End)) (e : End) → FreshBelow n ends → e ≡ fresh_end n → news ≡ ends ++ Some e ∷ [] → FreshBelow (n + 1) news
fresh_more n ends news e below fresh is =
    let number = below.0 in (
      ap length is ∙ length-append ends (Some e ∷ []) ∙ ap (λ k. k + 1) number,
      λ c less.
          ap (λ l. slice_get l c) is
          ∙ ⊎_elim (λ (before : c < n). in_front ends (Some e) c (omega arith) ∙ below.1 c before)
          (λ (last : n ≤ c). at_back ends (Some e) c (omega arith) ∙ ap (λ z. Some (Some z)) (fresh ∙ ap fresh_end (omega arith))) (cases_lt c n),
    )

pub all_wait : (g : Graph) (n : ℕ) (senders receivers : List (Option End)) → length g.channels ≤ n → FreshBelow n senders → FreshBelow n receivers → WaitFrom g 0 senders receivers
all_wait g n senders receivers reached sends receives = record {
  sends = λ c less _. sends.1 c (omega (arith, less, reached));
  receives = λ c less _. receives.1 c (omega (arith, less, reached));
}

module _ (g : Graph) (w : WellFormed g) (b : ℕ) (lb : b < length g.blocks) (senders receivers : List (Option End)) (waits : WaitFrom g b senders receivers) where
  pub in_waits : (p : ℕ) → p < length (block g b).ins → EndWaits receivers (into g b p)
  in_waits p less = let n = w.in_named b p lb less in let to = n.1 in waits.receives (into g b p) n.0 (omega (arith, to))

  pub out_waits : (p : ℕ) → p < length (block g b).outs → EndWaits senders (out_of g b p)
  out_waits p less = let n = w.out_named b p lb less in let from = n.1 in waits.sends (out_of g b p) n.0 (omega (arith, from))

  module _ (ins outs : List End) (senders' receivers' : List (Option End))
      (ins_number : length ins ≡ length (block g b).ins)
      (ins_taken : (p : ℕ) (x : End) → p < length (block g b).ins → slice_get receivers (into g b p) ≡ Some (Some x) → slice_get ins p ≡ Some x)
      (ins_others : (c : ℕ) → ((p : ℕ) → p < length (block g b).ins → into g b p ≢ c) → slice_get receivers' c ≡ slice_get receivers c)
      (outs_number : length outs ≡ length (block g b).outs)
      (outs_taken : (p : ℕ) (x : End) → p < length (block g b).outs → slice_get senders (out_of g b p) ≡ Some (Some x) → slice_get outs p ≡ Some x)
      (outs_others : (c : ℕ) → ((p : ℕ) → p < length (block g b).outs → out_of g b p ≢ c) → slice_get senders' c ≡ slice_get senders c) where
    pub has_wires : HasWires g b ins outs
    has_wires = record {
      inputs = all_fresh (block g b).ins ins ins_number (λ p less. ins_taken p (fresh_end (into g b p)) less (in_waits p less));
      outputs = all_fresh (block g b).outs outs outs_number (λ p less. outs_taken p (fresh_end (out_of g b p)) less (out_waits p less));
    }

    pub wait_from : WaitFrom g (b + 1) senders' receivers'
    wait_from = record {
      sends = λ c lc le.
          outs_others c (λ p less same. let from : (channel g c).from_block ≡ b = ap (λ k. (channel g k).from_block) (sym same) ∙ (w.out_named b p lb less).1 in omega (arith, from, le))
          ∙ waits.sends c lc (omega (arith, le));
      receives = λ c lc le.
          ins_others c (λ p less same. let to : (channel g c).to_block ≡ b = ap (λ k. (channel g k).to_block) (sym same) ∙ (w.in_named b p lb less).1 in omega (arith, to, le))
          ∙ waits.receives c lc (omega (arith, le));
    }
