-- Jobs of blocks, and blocks of jobs that have ended, one after another.
use Rattle.std.proofs.Common.{◌≡◌, ℕ, zero, suc, ◌+◌, ◌<◌, ◌≤◌, false, List, [], ◌∷◌, ◌++◌, length, drop, sym, ap, ◌∙◌, subst, arith, ⊎_elim, length-append}
use Rattle.std.specs.Prelude.{Some, slice_get}
use Rattle.std.proofs.lemmas.Bool.{cases_lt}
use Rattle.graph.specs.declared.graphs.Graph.{Graph}
use Rattle.plays.proofs.Lists.{same_some}
use Rattle.block_threads.specs.declared.nest.Job.{Job}
use Rattle.block_threads.specs.declared.nest.Task.{Task}
use Rattle.block_threads.specs.declared.nest.Task.TheVariants.{Ready, Ended}
use Rattle.block_threads.specs.declared.working.Worked.{Worked}
use Rattle.block_threads.specs.Wires.{HasWires}
use Rattle.block_threads.proofs.Taking.{at_back, in_front}

-- what is left begins with the next
pub next_of : {A : Type 0} (xs : List A) (n : ℕ) (x : A) (rest : List A) → x ∷ rest ≡ drop n xs → slice_get xs n ≡ Some x
next_of [] zero x rest e = absurd (cc)
next_of [] (suc n) x rest e = absurd (cc)
next_of (y ∷ xs) zero x rest e = let same : x ≡ y = cc in ap (λ z. Some z) (sym same)
next_of (y ∷ xs) (suc n) x rest e = next_of xs n x rest e

pub rest_of : {A : Type 0} (xs : List A) (n : ℕ) (x : A) (rest : List A) → x ∷ rest ≡ drop n xs → rest ≡ drop (n + 1) xs
rest_of [] zero x rest e = absurd (cc)
rest_of [] (suc n) x rest e = absurd (cc)
rest_of (y ∷ xs) zero x rest e = cc
rest_of (y ∷ xs) (suc n) x rest e = let on : suc n + 1 ≡ suc (n + 1) = omega arith in rest_of xs n x rest e ∙ ap (λ k. drop k (y ∷ xs)) (sym on)

pub all_of : {A : Type 0} (xs : List A) (n : ℕ) → [] ≡ drop n xs → length xs ≤ n
all_of [] n e = omega arith
all_of (y ∷ xs) zero e = absurd (cc)
all_of (y ∷ xs) (suc n) e = omega (arith, all_of xs n e)

module _ {W B : Type 0} where
  abbrev pub MadeFor : Graph → List B → List (Task W B) → Type 0
  MadeFor g blocks tasks = (b : ℕ) (x : B) → b < length tasks → slice_get blocks b ≡ Some x
      → (j : Job W B) × (slice_get tasks b ≡ Some (Ready j)) × (j.block ≡ x) × HasWires g b j.ins.items j.outs.items

  pub made_more : (g : Graph) (blocks : List B) (tasks news : List (Task W B)) (x : B) (j : Job W B) → MadeFor g blocks tasks → news ≡ tasks ++ Ready j ∷ []
      → slice_get blocks (length tasks) ≡ Some x → j.block ≡ x → HasWires g (length tasks) j.ins.items j.outs.items → MadeFor g blocks news
  made_more g blocks tasks news x j made is here own wires b y less0 at =
      let less : b < length tasks + 1 = subst (λ k. b < k) (ap length is ∙ length-append tasks (Ready j ∷ [])) less0 in
      ⊎_elim (λ (before : b < length tasks).
      let m = made b y before at in (m.0, ap (λ l. slice_get l b) is ∙ in_front tasks (Ready j) b before ∙ m.1, m.2, m.3))
      (λ (last : length tasks ≤ b).
      let now : b ≡ length tasks = omega arith in
      let same : x ≡ y = same_some x y (sym here ∙ ap (slice_get blocks) (sym now) ∙ at) in
      (j, ap (λ l. slice_get l b) is ∙ at_back tasks (Ready j) b now, own ∙ same, subst (λ k. HasWires g k j.ins.items j.outs.items) (sym now) wires)) (cases_lt b (length tasks))

  abbrev pub GivenBack : List (Task W B) → List B → Type 0
  GivenBack tasks blocks = (b : ℕ) (w : Worked W B) → b < length blocks → slice_get tasks b ≡ Some (Ended w) → (slice_get blocks b ≡ Some w.block) × (w.lost ≡ false)

  pub back_more : (tasks : List (Task W B)) (blocks news : List B) (w : Worked W B) → GivenBack tasks blocks → news ≡ blocks ++ w.block ∷ []
      → slice_get tasks (length blocks) ≡ Some (Ended w) → w.lost ≡ false → GivenBack tasks news
  back_more tasks blocks news w back is here kept b v less0 at =
      let less : b < length blocks + 1 = subst (λ k. b < k) (ap length is ∙ length-append blocks (w.block ∷ [])) less0 in
      ⊎_elim (λ (before : b < length blocks). let m = back b v before at in (ap (λ l. slice_get l b) is ∙ in_front blocks w.block b before ∙ m.0, m.1))
      (λ (last : length blocks ≤ b).
      let now : b ≡ length blocks = omega arith in
      let same : Ended w ≡ Ended v = same_some (Ended w) (Ended v) (sym here ∙ ap (slice_get tasks) (sym now) ∙ at) in
      let own : w ≡ v = cc in
      (ap (λ l. slice_get l b) is ∙ at_back blocks w.block b now ∙ ap (λ (z : Worked W B). Some z.block) own, ap (λ (z : Worked W B). z.lost) (sym own) ∙ kept)) (cases_lt b (length blocks))

-- nothing is left at the end
pub ended_at_length : {A : Type 0} (xs rest : List A) (n : ℕ) → length rest ≡ 0 → rest ≡ drop n xs → length xs ≤ n
ended_at_length xs [] n none e = all_of xs n e
ended_at_length xs (y ∷ rest) n none e = absurd (omega arith)
