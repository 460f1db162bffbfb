-- Works that run one after another.
use Rattle.std.proofs.Common.{◌≡◌, ℕ, zero, suc, ◌<◌, ◌⊎◌, inl, inr, List, [], ◌∷◌, length, set, refl, sym, ap, ◌∙◌, subst, arith, ⊎_elim, length-set}
use Rattle.std.specs.Prelude.{Some, slice_get}
use Rattle.std.specs.List.{All, Contains}
use Rattle.std.proofs.lemmas.Bool.{cases_eq}
use Rattle.std.proofs.lemmas.Option.{slice_get_within}
use Rattle.stream_tokens.specs.declared.Token.{Token}
use Rattle.block_core.specs.declared.BlockStep.{Ghosts}
use Rattle.plays.proofs.Lists.{same_some, get_set_here, get_set_there}
use Rattle.block_threads.specs.declared.nest.Job.{Job}
use Rattle.block_threads.specs.declared.nest.Task.{Task}
use Rattle.block_threads.specs.declared.nest.Task.TheVariants.{Ready, Running, Ended}
use Rattle.block_threads.specs.declared.working.Worked.{Worked}
use Rattle.block_threads.specs.Tasks.{EndsAs, AreReady, HaveRun}

first_or_rest : (n : ℕ) (rest : List ℕ) (b : ℕ) → Contains (n ∷ rest) b → (n ≡ b) ⊎ Contains rest b
first_or_rest n rest b (zero, less, is) = inl is
first_or_rest n rest b (suc k, less, is) = inr (k, omega arith, is)

none_in : (b : ℕ) → Contains [] b → ⊥
none_in b (k, less, is) = omega arith

pub all_first : (P : ℕ → Type 0) (order : List ℕ) (n : ℕ) (rest : List ℕ) → order ≡ n ∷ rest → All P order → P n
all_first P order n rest is all = let h : All P (n ∷ rest) = subst (All P) is all in h 0 n (omega arith)

pub all_rest : (P : ℕ → Type 0) (order : List ℕ) (n : ℕ) (rest : List ℕ) → order ≡ n ∷ rest → All P order → All P rest
all_rest P order n rest is all k d less = let h : All P (n ∷ rest) = subst (All P) is all in h (suc k) d (omega arith)

module _ {W B : Type 0} (step : Ghosts B) (streams : List (List Token)) where
  pub none_run : (order : List ℕ) (tasks : List (Task W B)) → length order ≡ 0 → HaveRun step streams order tasks tasks
  none_run [] tasks e = record { number = refl; ran = λ b j has at. absurd (none_in b has); running = λ b at. at; kept = λ b w at. at }
  none_run (n ∷ rest) tasks e = absurd (omega arith)

  pub skipped : (order : List ℕ) (n : ℕ) (rest : List ℕ) (tasks mids news : List (Task W B)) → order ≡ n ∷ rest → mids ≡ tasks
      → ((j : Job W B) → slice_get tasks n ≡ Some (Ready j) → ⊥) → HaveRun step streams rest mids news → HaveRun step streams order tasks news
  skipped order n rest tasks mids news is same none h0 =
      let h : HaveRun step streams rest tasks news = subst (λ l. HaveRun step streams rest l news) same h0 in
      record {
        number = h.number;
        ran = λ b j has at. ⊎_elim (λ (here : n ≡ b). absurd (none j (ap (slice_get tasks) here ∙ at))) (λ (more : Contains rest b). h.ran b j more at)
            (first_or_rest n rest b (subst (λ l. Contains l b) is has));
        running = h.running;
        kept = h.kept;
      }

  pub ready_but : (tasks mids : List (Task W B)) (n : ℕ) → n < length tasks → mids ≡ set tasks n Running → AreReady step streams tasks → AreReady step streams mids
  ready_but tasks mids n within is ready b j at0 =
      let at : slice_get (set tasks n Running) b ≡ Some (Ready j) = ap (λ l. slice_get l b) (sym is) ∙ at0 in
      ⊎_elim (λ (here : b ≡ n).
      let clash : Running ≡ Ready j = same_some Running (Ready j) (sym (get_set_here tasks n Running within) ∙ ap (slice_get (set tasks n Running)) (sym here) ∙ at) in absurd (cc))
      (λ (there : b ≡ n → ⊥). ready b j (sym (get_set_there tasks n b Running there) ∙ at)) (cases_eq b n)

  module _ (order : List ℕ) (n : ℕ) (rest : List ℕ) (tasks mids news ends : List (Task W B)) (job : Job W B) (w : Worked W B)
      (is : order ≡ n ∷ rest) (waits : slice_get tasks n ≡ Some (Ready job)) (taken : mids ≡ set tasks n Running)
      (h : HaveRun step streams rest mids news) (e : EndsAs step streams job w) (put : ends ≡ set news n (Ended w)) where
    same_length : length news ≡ length tasks
    same_length = h.number ∙ ap length taken ∙ length-set tasks n Running

    here_now : slice_get ends n ≡ Some (Ended w)
    here_now = ap (λ l. slice_get l n) put ∙ get_set_here news n (Ended w) (let less = slice_get_within tasks n (Ready job) waits in let same = same_length in omega arith)

    there_before : (b : ℕ) → (b ≡ n → ⊥) → slice_get mids b ≡ slice_get tasks b
    there_before b other = ap (λ l. slice_get l b) taken ∙ get_set_there tasks n b Running other

    there_now : (b : ℕ) → (b ≡ n → ⊥) → slice_get ends b ≡ slice_get news b
    there_now b other = ap (λ l. slice_get l b) put ∙ get_set_there news n b (Ended w) other

    ran_at : (b : ℕ) (j : Job W B) → Contains order b → slice_get tasks b ≡ Some (Ready j)
        → (v : Worked W B) × (slice_get ends b ≡ Some (Ended v)) × EndsAs step streams j v
    ran_at b j has at =
        ⊎_elim (λ (here : b ≡ n).
        let are : Ready job ≡ Ready j = same_some (Ready job) (Ready j) (sym waits ∙ ap (slice_get tasks) (sym here) ∙ at) in
        let same : job ≡ j = cc in
        (w, ap (slice_get ends) here ∙ here_now, subst (λ k. EndsAs step streams k w) same e))
        (λ (there : b ≡ n → ⊥).
        ⊎_elim (λ (first : n ≡ b). absurd (there (sym first)))
        (λ (more : Contains rest b). let r = h.ran b j more (there_before b there ∙ at) in (r.0, there_now b there ∙ r.1, r.2))
        (first_or_rest n rest b (subst (λ l. Contains l b) is has))) (cases_eq b n)

    not_here : (b : ℕ) (t : Task W B) → slice_get tasks b ≡ Some t → ((j : Job W B) → Ready j ≡ t → ⊥) → b ≡ n → ⊥
    not_here b t at other here = other job (same_some (Ready job) t (sym waits ∙ ap (slice_get tasks) (sym here) ∙ at))

    running_at : (b : ℕ) → slice_get tasks b ≡ Some Running → slice_get ends b ≡ Some Running
    running_at b at =
        let there : b ≡ n → ⊥ = not_here b Running at (λ j clash. cc) in
        there_now b there ∙ h.running b (there_before b there ∙ at)

    kept_at : (b : ℕ) (v : Worked W B) → slice_get tasks b ≡ Some (Ended v) → slice_get ends b ≡ Some (Ended v)
    kept_at b v at =
        let there : b ≡ n → ⊥ = not_here b (Ended v) at (λ j clash. cc) in
        there_now b there ∙ h.kept b v (there_before b there ∙ at)

    pub one_more : HaveRun step streams order tasks ends
    one_more = record {
      number = ap length put ∙ length-set news n (Ended w) ∙ same_length;
      ran = ran_at;
      running = running_at;
      kept = kept_at;
    }
