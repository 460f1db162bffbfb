-- After the loops of a term, its values and its sums keep to the rules, and the levels and values that are left stand.
use Rattle.std.specs.Prelude.{◌≡◌, ◌<◌, ℕ, suc, List, length, get_or}
use Rattle.stream_model.specs.declared.labels.Label.{Label}
use Rattle.custard_lower.specs.declared.trees.TermTrees.{TermTrees}
use Rattle.label_rules.specs.declared.plans.Plan.{Plan}
use Rattle.label_rules.specs.Labels.{no_label}
use Rattle.label_rules.specs.Plans.{left_marks, free_marks}
use Rattle.label_rules.specs.Holding.{Rules}
use Rattle.custard_lower.specs.Nests.{Nest}
use Rattle.custard_lower.specs.Values.{valued}
use Rattle.custard_lower.specs.Lowering.{summed_nest}
use Rattle.custard_lower.proofs.draft.Emitted.{Stands, OneStands, Sound, stands-on, one-stands-on}
use Rattle.custard_lower.proofs.term.TermAllowed.{ValuesAllowed, SumsAllowed}
use Rattle.custard_lower.proofs.term.LevelSound.{Refer}
use Rattle.custard_lower.proofs.term.ValuesSound.{valued-stands}
use Rattle.custard_lower.proofs.term.ReducedSound.{LevelsStand, reduced-stands}

module _ (rules : Rules) (trees : TermTrees) (t : Plan) (coordinates : ℕ → ℕ → List Label) (values : ℕ → List Label) (reference : ℕ → Label)
    (values_may : ValuesAllowed rules trees t reference (values 0)) (sums_may : SumsAllowed rules trees t coordinates values) where
  pub summed-stands : 0 < length t.accesses → (n : Nest) → Sound rules n.made → Stands n.made 0 no_label
      → length n.coordinates ≡ length t.on_left
      → ((k : ℕ) → k < length t.on_left → OneStands n.made (get_or n.coordinates k 0) (coordinates 0 (suc k)))
      → Refer rules trees t n.made reference n.references
      → LevelsStand rules (coordinates (free_marks t.on_left)) (values (free_marks t.on_left)) (left_marks t.on_left) (summed_nest trees t n)
  summed-stands some n sound root count levels refer =
      let v = valued trees t n.made n.references in
      let y = valued-stands rules trees t reference (values 0) values_may some n.made n.references sound refer in
      reduced-stands rules trees t coordinates values sums_may (record { made = v.made; coordinates = n.coordinates; values = v.values })
      (record {
        sound = y.sound;
        root = stands-on n.made v.made _ _ y.extends root;
        count = count;
        coordinates_stand = λ k l. one-stands-on n.made v.made _ _ y.extends (levels k l);
        values_stand = y.stands;
      })
