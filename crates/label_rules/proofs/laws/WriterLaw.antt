-- The writer of a level takes its coordinates.
use Rattle.std.specs.Prelude.{◌≡◌, ◌≤◌, ℕ, suc, List, [], ◌∷◌}
use Rattle.std.proofs.Common.{sym, subst}
use Rattle.stream_tokens.specs.declared.Token.{Token}
use Rattle.stream_tokens.specs.Shapes.{Positive}
use Rattle.stream_model.specs.declared.labels.Attr.TheVariants.{Coordinate}
use Rattle.stream_model.specs.Labels.{Shape, stream_at}
use Rattle.stream_model.specs.Grow.{path_fibers}
use Rattle.stream_model.proofs.Streams.{stream_at-IsStream}
use Rattle.block_core.specs.Kind.{WriteLevelKind}
use Rattle.block_core.specs.Ports.{AllStreams}
use Rattle.block_core.proofs.Given.{Gives, writelevel-gives}
use Rattle.label_rules.proofs.laws.Following.{coordinates-written, paths-positive}

-- a level's coordinates are written
pub level-written : (level : ℕ) (s : Shape) (d : ℕ) → s.depth ≡ suc d → s.depth ≤ 200
    → Gives (WriteLevelKind level) (stream_at s Coordinate ∷ []) []
level-written level s d e few =
    subst (λ (x : List Token). Gives (WriteLevelKind level) (x ∷ []) []) (sym (coordinates-written s))
    (writelevel-gives level _ (path_fibers s.ok s.sizes s.depth)
    (subst (λ (n : ℕ). Positive (path_fibers s.ok s.sizes n)) (sym e) (paths-positive s.ok s.sizes d))
    (subst (λ (x : List Token). AllStreams (x ∷ [])) (coordinates-written s) (stream_at-IsStream s Coordinate few, tt)))
