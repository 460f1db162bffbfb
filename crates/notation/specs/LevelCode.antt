-- Expressions that stand open, as lists of numbers that give them back.
use Rattle.std.specs.Prelude.{◌≡◌, ℕ, Bool, cond, List, [], eqb, refl}
use Rattle.std.specs.Coded.{Coded, code_by, coded×, coded_list, coded_ℕ, coded_bool}
use Rattle.notation.specs.Trees.{TextTree, TopTextTree}
use Rattle.notation.specs.TreeCode.{text_code, top_text_code}
use Rattle.notation.specs.declared.state.Opened.{Opened}
use Rattle.notation.specs.declared.state.Opened.TheVariants.{Equals, Parenthesis, Sum}
use Rattle.notation.specs.declared.state.Level.{Level}

abbrev pub opened_parts : Opened → ℕ × (List ℕ × ℕ)
opened_parts Equals = (0, ([], 0))
opened_parts Parenthesis = (1, ([], 0))
opened_parts (Sum v place) = (2, (v, place))

abbrev pub opened_from : ℕ × (List ℕ × ℕ) → Opened
opened_from p = cond (eqb p.0 0) Equals (cond (eqb p.0 1) Parenthesis (Sum p.1.0 p.1.1))

pub opened_same : (o : Opened) → opened_from (opened_parts o) ≡ o
opened_same Equals = refl
opened_same Parenthesis = refl
opened_same (Sum v place) = refl

abbrev pub opened_code : Coded Opened
opened_code = code_by (ℕ × (List ℕ × ℕ)) (coded× coded_ℕ (coded× (coded_list coded_ℕ) coded_ℕ)) opened_parts opened_from opened_same

abbrev pub Parts : Type 0
Parts = Opened × (List TopTextTree × (Bool × List TextTree))

abbrev pub level_code : Coded Level
level_code =
    code_by Parts (coded× opened_code (coded× (coded_list top_text_code) (coded× coded_bool (coded_list text_code))))
    (λ l. (l.opened, (l.terms, (l.minus, l.factors))))
    (λ p. record { opened = p.0; terms = p.1.0; minus = p.1.1.0; factors = p.1.1.1 }) (λ _. refl)
