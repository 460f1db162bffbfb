-- What is left of a listing.
use Rattle.std.proofs.Common.{◌≡◌, ℕ, ◌+◌, ◌<◌, Bool, true, List, ◌∷◌, ◌++◌, length, get_or, refl, append_assoc}
use Rattle.std.proofs.lemmas.Bool.{and_parts}
use Rattle.std.proofs.lemmas.List.{drop_more}
use Rattle.std.specs.List.{list_all}
use Rattle.sam_model.specs.ResultText.{by_modes, entry_text, listing_text}
use Rattle.sam_model.specs.declared.tensors.Written.{Written}
use Rattle.sam_model.specs.Listing.{path_of}
use Rattle.tns_io.specs.Walks.{listing_from}

-- the next value
pub listing-next : (w : Written) (n : ℕ) → n < length w.vals → listing_from w n ≡ (path_of w.segs w.crds n, get_or w.vals n 0) ∷ listing_from w (n + 1)
listing-next w n h = rw (drop_more w.vals n 0 h) refl

-- a line is written
pub listing-on : (order : List ℕ) (w : Written) (n : ℕ) (text more path items : List ℕ) → n < length w.vals → path ≡ path_of w.segs w.crds n → items ≡ w.vals → more ≡ text ++ entry_text (by_modes order path) (get_or items n 0)
    → more ++ listing_text order (listing_from w (n + 1)) ≡ text ++ listing_text order (listing_from w n)
listing-on order w n text more path items h p i m =
    rw (listing-next w n h, m, p, i) (append_assoc text (entry_text (by_modes order (path_of w.segs w.crds n)) (get_or w.vals n 0)) (listing_text order (listing_from w (n + 1))))

-- a fact of every entry that is left: it holds of the next, and of the others
pub record Passes (P : List ℕ × ℕ → Bool) (w : Written) (n : ℕ) : Type 0 where
  pub next : P (path_of w.segs w.crds n, get_or w.vals n 0) ≡ true
  pub others : list_all P (listing_from w (n + 1)) ≡ true

pub listing-passes : (P : List ℕ × ℕ → Bool) (w : Written) (n : ℕ) → n < length w.vals → list_all P (listing_from w n) ≡ true → Passes P w n
listing-passes P w n h all =
    let both : list_all P ((path_of w.segs w.crds n, get_or w.vals n 0) ∷ listing_from w (n + 1)) ≡ true = rw (listing-next w n h) at all in
    let parts = and_parts _ _ both in
    record { next = parts.0; others = parts.1 }
