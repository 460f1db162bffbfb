use Rattle.std.specs.Prelude.{◌≡◌, ◌-◌, ◌&&◌, ℕ, suc, refl}
use Rattle.std.specs.List.{list_any, range_with_len}
use Rattle.std.proofs.Common.{arith, sym, ◌∙◌, ap}
use Rattle.stream_model.specs.declared.labels.Attr.TheVariants.{Coordinate}
use Rattle.label_rules.specs.Labels.{same_label}
use Rattle.label_rules.specs.TermLabels.{same_kept, reduced_label, product_label, full_mask}
use Rattle.graph_check.proofs.Ports.{any-passing}
use Rattle.graph_check.proofs.rules.LabelRules.is_coordinate.Goals as goal

pub returns : goal.returns
returns c =
    let p = c.args.self.now.program.now in
    let t = c.args.t in let g = c.args.g in let d = c.args.d in let l = c.args.label in
    let test = λ (h : ℕ). same_kept p t d g h && same_label l (reduced_label p t h 9 d Coordinate) in
    let back : suc g - 1 ≡ g = omega arith in
    let first : c.is_reduced_coordinate.result ≡ list_any test (range_with_len 1 g) =
    c.is_reduced_coordinate.ensures ∙ ap (λ (n : ℕ). list_any test (range_with_len 1 n)) back in
    rw (first, c.is_same.ensures, c.keeps_same.ensures, c.product.ensures, c.mask-mask.ensures, c.saturating_sub.ensures) refl
    ∙ sym (any-passing (same_kept p t d g) (λ (h : ℕ). reduced_label p t h 9 d Coordinate) l (product_label p t d (full_mask p t (d - 1)) Coordinate) (same_kept p t d g 0) (range_with_len 1 g))
