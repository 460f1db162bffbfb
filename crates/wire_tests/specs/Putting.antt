-- Where one who puts a stream on a wire is.
use Rattle.std.specs.Prelude.{◌≡◌, ◌<◌, ℕ, false, List, [], ◌∷◌}
use Rattle.ruled_wires.specs.Ends.{End}

-- There is one end, of wire 0: so many tokens were put on it, no Lost was, and one more can be.
pub record HasPut (outs : List End) (n : ℕ) : Type 0 where
  pub end : End
  pub one : outs ≡ end ∷ []
  pub channel : end.channel ≡ 0
  pub count : end.count ≡ n
  pub lost : end.lost ≡ false
  pub room : end.kept < 64
