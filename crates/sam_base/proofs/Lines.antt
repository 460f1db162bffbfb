-- Texts that are appended one after another.
use Rattle.std.proofs.Common.{◌≡◌, ℕ, List, ◌++◌, append_assoc, ap, ◌∙◌}

-- a text that grew by three parts grew by them together
pub grown-three :
    (old a b n1 n2 now end : List ℕ) →
    n1 ≡ old ++ a → n2 ≡ n1 ++ b → now ≡ n2 ++ end → now ≡ old ++ (a ++ (b ++ end))
grown-three old a b n1 n2 now end e1 e2 e3 =
    e3 ∙ ap (λ t. t ++ end) (e2 ∙ ap (λ t. t ++ b) e1)
    ∙ append_assoc (old ++ a) b end ∙ append_assoc old a (b ++ end)
