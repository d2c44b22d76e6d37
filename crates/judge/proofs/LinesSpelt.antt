-- A text whose lines have forms begins with their spelling.
use Rattle.std.proofs.Common.{◌≡◌, ℕ, Bool, true, false, cond, eqb, List, [], ◌∷◌, ◌++◌, map, Some, None, Ok, Option, Result, sym, refl, ap, ◌∙◌, append_assoc}
use Rattle.std.proofs.lemmas.Bool.{eqb-true}
use Rattle.clauses.specs.declared.refusals.Refusal.{Refusal}
use Rattle.texts.specs.Lines.{Form, onto_line, lines_of, line_form}
use Rattle.texts.specs.Spelling.{spell_form, LineLaw}
use Rattle.judge.specs.Judging.{form_of_line, forms_of}
use Rattle.judge.specs.Relying.{spell_lines}

-- the first line of a text, and what stands behind its byte 10
pub record FirstLine (text line : List ℕ) (others : List (Option (List ℕ))) : Type 0 where
  pub behind : List ℕ
  pub parted : text ≡ line ++ (10 ∷ behind)
  pub left : lines_of behind ≡ others

pub first_line : (text line : List ℕ) (others : List (Option (List ℕ))) → lines_of text ≡ Some line ∷ others → FirstLine text line others
first_line [] line others e = cc
first_line (b ∷ bs) line others e = go (eqb b 10) refl (lines_of bs) refl e (first_line bs)
  where
    longer : (l : List ℕ) (ls : List (Option (List ℕ))) → Some (b ∷ l) ∷ ls ≡ Some line ∷ others → FirstLine bs l ls → FirstLine (b ∷ bs) line others
    longer l ls f r =
        let same : b ∷ l ≡ line = cc in
        let rest : ls ≡ others = cc in
        record { behind = r.behind; parted = rw (sym same) (ap (λ xs. b ∷ xs) r.parted); left = r.left ∙ rest }

    go : (t : Bool) → eqb b 10 ≡ t → (ls : List (Option (List ℕ))) → lines_of bs ≡ ls → cond t (Some [] ∷ ls) (onto_line b ls) ≡ Some line ∷ others → ((l : List ℕ) (os : List (Option (List ℕ))) → lines_of bs ≡ Some l ∷ os → FirstLine bs l os) → FirstLine (b ∷ bs) line others
    go true h ls q f ih =
        let ten : b ≡ 10 = eqb-true b 10 h in
        let same : [] ≡ line = cc in
        let rest : ls ≡ others = cc in
        record { behind = bs; parted = rw (ten, sym same) refl; left = q ∙ rest }
    go false h [] q f ih = cc
    go false h (None ∷ os) q f ih = cc
    go false h (Some l ∷ os) q f ih = longer l os f (ih l os q)

-- the first form of a text, and what stands behind its line
pub record FirstForm (text : List ℕ) (f : Form) (others : List (Result Form Refusal)) : Type 0 where
  pub behind : List ℕ
  pub spelt : text ≡ spell_form f ++ (10 ∷ behind)
  pub left : forms_of behind ≡ others

pub first_form : LineLaw → (text : List ℕ) (f : Form) (others : List (Result Form Refusal)) → forms_of text ≡ Ok f ∷ others → FirstForm text f others
first_form law text f others e = go (lines_of text) refl e
  where
    go : (ls : List (Option (List ℕ))) → lines_of text ≡ ls → map form_of_line ls ≡ Ok f ∷ others → FirstForm text f others
    go [] q h = cc
    go (None ∷ ls) q h = cc
    go (Some l ∷ ls) q h =
        let here : line_form l ≡ Ok f = cc in
        let rest : map form_of_line ls ≡ others = cc in
        let first = first_line text l ls q in
        record { behind = first.behind; spelt = first.parted ∙ ap (λ x. x ++ (10 ∷ first.behind)) (law.spelt l f here).0; left = ap (map form_of_line) first.left ∙ rest }

-- forms that a text begins with
pub record BeginsWith (text : List ℕ) (fs : List Form) (others : List (Result Form Refusal)) : Type 0 where
  pub behind : List ℕ
  pub spelt : text ≡ spell_lines fs ++ behind
  pub left : forms_of behind ≡ others

pub begins_with : LineLaw → (fs : List Form) (text : List ℕ) (others : List (Result Form Refusal)) → forms_of text ≡ map Ok fs ++ others → BeginsWith text fs others
begins_with law [] text others e = record { behind = text; spelt = refl; left = e }
begins_with law (f ∷ fs) text others e =
    let first = first_form law text f (map Ok fs ++ others) e in
    let more = begins_with law fs first.behind others first.left in
    record {
      behind = more.behind;
      spelt = first.spelt ∙ ap (λ x. spell_form f ++ (10 ∷ x)) more.spelt ∙ sym (append_assoc (spell_form f) (10 ∷ spell_lines fs) more.behind);
      left = more.left;
    }
