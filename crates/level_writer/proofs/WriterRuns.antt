-- A new writer takes its whole stream, and what it keeps of a token is what the tokens that are left no longer bring.
use Rattle.std.proofs.Common.{◌≡◌, ◌∙◌, ℕ, ◌+◌, Bool, true, false, List, [], ◌∷◌, ◌++◌, slice_get, Some, sym, ap, subst, refl, arith, append_assoc}
use Rattle.stream_tokens.specs.declared.Token.{Token}
use Rattle.stream_tokens.specs.declared.Token.TheVariants.{Item, Empty, Stop, Done}
use Rattle.stream_tokens.proofs.Ending.{EndsWithin, IsStream-ends}
use Rattle.block_core.specs.declared.Wish.TheVariants.{Take}
use Rattle.block_core.specs.Move.{Move, Taking, Putting, takes}
use Rattle.block_core.specs.Ports.{Streams, port, AllStreams}
use Rattle.block_core.specs.Cast.{drain_moves}
use Rattle.block_core.specs.Kind.{Fits, WriteValueKind, moves}
use Rattle.block_core.specs.Written.{items_in, vals_of}
use Rattle.block_core.specs.Runs.{Runs}
use Rattle.block_core.specs.Stands.{Stands}
use Rattle.block_core.proofs.Standing.{stands-step}
use Rattle.level_writer.specs.WriterSteps.{writer_wants, writer_took, writer_steps}
use Rattle.level_writer.specs.Kept.{KeepsValues}

pub writer-run : (s : List Token) → EndsWithin 200 s → Runs writer_steps false (drain_moves s)
writer-run [] h = absurd h
writer-run (Item x ∷ s) h = (refl, writer-run s h)
writer-run (Empty ∷ s) h = (refl, writer-run s h)
writer-run (Stop n ∷ s) h = (refl, writer-run s h.1)
writer-run (Done ∷ s) h = let P : List Token → Type 0 = λ x. Runs writer_steps false (drain_moves (Done ∷ x)) in subst P (sym h) (refl, refl)

pub writer-takes : (s : List Token) → takes 0 (drain_moves s) ≡ s
writer-takes [] = refl
writer-takes (t ∷ s) = ap (λ (x : List Token). t ∷ x) (writer-takes s)

-- the one input is the stream of a tree
pub input-ends : (s : Streams) (t : List Token) → t ∷ [] ≡ s → AllStreams s → EndsWithin 200 (port 0 s)
input-ends s t e h =
    let P : Streams → Type 0 = λ x. AllStreams x → EndsWithin 200 (port 0 x) in
    subst P e (λ (k : AllStreams (t ∷ [])). IsStream-ends t k.0) h

pub port-zero : (ended : Bool) (p : ℕ) → writer_wants ended ≡ Take p → p ≡ 0
port-zero false p e = cc
port-zero true p e = cc

pub items-step : (t : Token) (s : List Token) → items_in (t ∷ s) ≡ items_in (t ∷ []) ++ items_in s
items-step (Item x) s = refl
items-step Empty s = refl
items-step (Stop n) s = refl
items-step Done s = refl

-- ---- the values

pub values-start : (s : Streams) → Fits WriteValueKind s → Stands (KeepsValues [] false (port 0 s)) WriteValueKind s 0
values-start s f = record {
  fits = f;
  within = omega arith;
  rest = record {
    runs = writer-run (port 0 s) (input-ends s (port 0 s) f.back f.streams);
    kept = ap items_in (writer-takes (port 0 s));
  };
}

values-taken : (vals : List ℕ) (ended : Bool) (s : List Token) (p : ℕ) (t : Token) (rest : List Move)
    → KeepsValues vals ended s (Taking p t ∷ rest)
    → KeepsValues (vals ++ items_in (t ∷ [])) (writer_took ended t) s rest
values-taken vals ended s p t rest h =
    let P : ℕ → Type 0 = λ q. vals ++ items_in (takes 0 (Taking q t ∷ rest)) ≡ vals_of s in
    let k : vals ++ items_in (t ∷ takes 0 rest) ≡ vals_of s = subst P (port-zero ended p h.runs.0) h.kept in
    record {
      runs = h.runs.1;
      kept = append_assoc vals (items_in (t ∷ [])) (items_in (takes 0 rest))
          ∙ ap (λ (x : List ℕ). vals ++ x) (sym (items-step t (takes 0 rest))) ∙ k;
    }

pub values-take : (vals vals' : List ℕ) (ended ended' : Bool) (s : Streams) (n p : ℕ) (t : Token)
    → vals' ≡ vals ++ items_in (t ∷ []) → ended' ≡ writer_took ended t
    → slice_get (moves WriteValueKind s) n ≡ Some (Taking p t)
    → Stands (KeepsValues vals ended (port 0 s)) WriteValueKind s n
    → Stands (KeepsValues vals' ended' (port 0 s)) WriteValueKind s (n + 1)
values-take vals vals' ended ended' s n p t e d at h =
    stands-step (KeepsValues vals ended (port 0 s)) (KeepsValues vals' ended' (port 0 s)) WriteValueKind s n (Taking p t)
    (λ rest k. rw (e, d) (values-taken vals ended (port 0 s) p t rest k)) at h

values-passed : (vals : List ℕ) (ended : Bool) (s : List Token) (p : ℕ) (t : Token) (rest : List Move)
    → KeepsValues vals ended s (Putting p t ∷ rest) → KeepsValues vals ended s rest
values-passed vals ended s p t rest h = record { runs = h.runs.1; kept = h.kept }

pub values-put : (vals : List ℕ) (ended : Bool) (s : Streams) (n p : ℕ) (t : Token)
    → slice_get (moves WriteValueKind s) n ≡ Some (Putting p t)
    → Stands (KeepsValues vals ended (port 0 s)) WriteValueKind s n
    → Stands (KeepsValues vals ended (port 0 s)) WriteValueKind s (n + 1)
values-put vals ended s n p t at h =
    stands-step (KeepsValues vals ended (port 0 s)) (KeepsValues vals ended (port 0 s)) WriteValueKind s n (Putting p t)
    (values-passed vals ended (port 0 s) p t) at h
