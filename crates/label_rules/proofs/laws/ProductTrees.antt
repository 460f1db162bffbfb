-- The streams of product trees, told of the prefixes of a level or beneath those of the level above it.
use Rattle.std.specs.Prelude.{◌≡◌, ◌<◌, ℕ, suc, Bool, List, length, refl, cond, None}
use Rattle.std.proofs.Common.{sym, ◌∙◌, ap}
use Rattle.sam_model.specs.Tensors.{rank_of, value_at}
use Rattle.stream_tokens.specs.declared.Token.{Token}
use Rattle.stream_tokens.specs.Nest.{Fiber}
use Rattle.stream_model.specs.declared.labels.Attr.{Attr}
use Rattle.stream_model.specs.Grow.{path_fibers}
use Rattle.stream_model.specs.Terms.{TermData, restricted, access_at}
use Rattle.stream_model.specs.Trees.{in_product, in_whole}
use Rattle.stream_model.specs.Labels.{loop_sizes, product_shape, token, stream_at, only_where}
use Rattle.stream_model.specs.Masks.{final}
use Rattle.stream_model.proofs.Grown.{path_fibers-suc}
use Rattle.stream_model.proofs.Products.{paths-final, paths-lower}
use Rattle.stream_model.proofs.Levels.{stream-over, told-same}
use Rattle.stream_model.specs.Tellings.{Telling, told, deeper}

-- each access says of every loop of its term whether it has it
abbrev pub AllMasked : TermData → Type 0
AllMasked t = (f : ℕ) → f < length t.accesses → length (access_at t.accesses f).has ≡ length t.loops

-- ---- the prefixes of a level

-- the prefixes of length d of a term's product tree, where every access is asked
abbrev pub prefixes : TermData → ℕ → List (Fiber (List ℕ))
prefixes t d = path_fibers (in_whole t) (loop_sizes t.loops) d

-- the rank of a prefix at access f
abbrev pub rank_at : TermData → ℕ → List ℕ → ℕ
rank_at t f p = rank_of (access_at t.accesses f).tensor (restricted (access_at t.accesses f) p)

-- and its value there
abbrev pub factor_at : TermData → ℕ → List ℕ → ℕ
factor_at t f p = value_at (access_at t.accesses f).tensor (restricted (access_at t.accesses f) p)

-- ---- streams

-- the stream of a product tree
abbrev pub product_stream : TermData → ℕ → List Bool → Attr → List Token
product_stream t d mask a = stream_at (product_shape t d mask) a

-- a product tree lies beneath the prefixes that all accesses let stand
pub product-beneath : (t : TermData) (d : ℕ) (mask : List Bool) (a : Attr)
    → product_stream t (suc d) mask a
    ≡ told (token (product_shape t (suc d) mask) a) (deeper (in_product t (suc d) mask) (loop_sizes t.loops) (prefixes t d))
product-beneath t d mask a =
    stream-over (product_shape t (suc d) mask) a
    ∙ ap (told (token (product_shape t (suc d) mask) a))
    (path_fibers-suc (in_product t (suc d) mask) (loop_sizes t.loops) d
    ∙ ap (deeper (in_product t (suc d) mask) (loop_sizes t.loops)) (paths-lower t d mask (loop_sizes t.loops)))

-- at its final mask it has these prefixes, and the term has them all
pub product-final : (t : TermData) (d : ℕ) (a : Attr) (x : Telling) → ((p : List ℕ) → token (product_shape t d (final t d)) a p ≡ x p)
    → product_stream t d (final t d) a ≡ told (only_where (in_whole t) x) (prefixes t d)
product-final t d a x h =
    stream-over (product_shape t d (final t d)) a
    ∙ ap (told (token (product_shape t d (final t d)) a)) (paths-final t d (loop_sizes t.loops))
    ∙ told-same (token (product_shape t d (final t d)) a) (only_where (in_whole t) x) (in_whole t) (loop_sizes t.loops) d refl
    (λ p i. h p ∙ ap (λ b. cond b (x p) None) (sym i.passes))
