use Rattle.std.proofs.Common.{◌≡◌, ℕ, ◌&&◌, false, eqb, List, [], ◌∷◌, length, sym, refl, ap, ◌∙◌, arith, ne_eqb, rules}
use Rattle.statement.specs.declared.types.Standing.{Standing}
use Rattle.statement.specs.declared.types.Standing.TheVariants as standing
use Rattle.run.specs.Performing.{Entry}
use Rattle.run.specs.Runs.{is_outside, is_empty}
use Rattle.calls.specs.Tables.{entry_of}
use Rattle.reader.specs.Held.{bytes_held}
use Rattle.reader.specs.Stances.{stance_of}
use Rattle.reader.proofs.reader.Reader.is_between.Goals as goal

none_held : (held : List ℕ) → eqb (length held) 0 ≡ is_empty held
none_held [] = refl
none_held (b ∷ bs) = ne_eqb (length (b ∷ bs)) 0 (λ e. omega arith)

elsewhere : (st : Standing) (e : Entry) → (st ≡ standing.Outside → ⊥) → is_outside (stance_of st e) ≡ false
elsewhere standing.Outside e h = absurd (h refl)
elsewhere standing.Picture e h = refl
elsewhere (standing.Definition w) e h = refl

pub returns-then-eq : goal.returns-then-eq
returns-then-eq c =
    let r = c.args.self.now in
    let here : r.state.standing ≡ standing.Outside = search rules in
    c.is_empty.ensures ∙ none_held (bytes_held r.held) ∙ sym (ap (λ z. is_outside (stance_of z (entry_of r.state.draft)) && is_empty (bytes_held r.held)) here)

pub returns-else-eq : goal.returns-else-eq
returns-else-eq c =
    let r = c.args.self.now in
    let there : r.state.standing ≡ standing.Outside → ⊥ = λ e. search rules in
    c.if-eq.false ∙ sym (ap (λ z. z && is_empty (bytes_held r.held)) (elsewhere r.state.standing (entry_of r.state.draft) there))
