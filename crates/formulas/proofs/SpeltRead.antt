-- The spelling of a formula within the limits is read as that formula.
use Rattle.std.proofs.Common.{◌≡◌, ℕ, suc, ◌+◌, ◌-◌, ◌<◌, ◌≤◌, true, false, List, [], ◌∷◌, ◌++◌, length, take, drop, Some, Ok, decimal, sym, refl, ◌∙◌, append_assoc, arith}
use Rattle.std.specs.Char.{is_ascii_digit}
use Rattle.std.specs.Str.{all_ascii_digits}
use Rattle.std.proofs.lemmas.List.{take_at, drop_at}
use Rattle.std.proofs.lemmas.Bool.{le-leb, and_parts, false≢true}
use Rattle.clauses.specs.Limits.{max_gates}
use Rattle.gates.specs.TwoInput.{two_input}
use Rattle.model.specs.Plans.{Plan, complete, signals, are_signals}
use Rattle.texts.specs.Characters.{first}
use Rattle.texts.specs.Numbers.{max_number, number_answer}
use Rattle.texts.proofs.Decimals.{spelling, number_of, tested}
use Rattle.formulas.specs.Reading.{Read, digit_count, read_switch, read}
use Rattle.formulas.specs.declared.signs.Sign.{Sign}
use Rattle.formulas.specs.declared.signs.Sign.TheVariants.{And, Or, Then, If, Same, Differ}
use Rattle.formulas.specs.Trees.{sign_byte, operator_code, Formula, Switch, Not, Join, spell, nesting, gate_count, Over, gates_of}
use Rattle.formulas.proofs.ReadingSteps.{read_else, not_read, join_read}
use Rattle.formulas.proofs.FormulaGates.{grown, gates_length, own_signal, signal_test, gate_taken, code_low, code_arity}

sign_no_digit : (s : Sign) (bs : List ℕ) → digit_count (sign_byte s ∷ bs) ≡ 0
sign_no_digit And bs = refl
sign_no_digit Or bs = refl
sign_no_digit Then bs = refl
sign_no_digit If bs = refl
sign_no_digit Same bs = refl
sign_no_digit Differ bs = refl

count_digits : (ds rest : List ℕ) → all_ascii_digits ds ≡ true → digit_count rest ≡ 0 → digit_count (ds ++ rest) ≡ length ds
count_digits [] rest h z = z
count_digits (c ∷ cs) rest h z =
    let p = and_parts (is_ascii_digit c) (all_ascii_digits cs) h in
    rw p.0 (omega (arith, count_digits cs rest p.1 z))

first_is_digit : (ds rest : List ℕ) → all_ascii_digits ds ≡ true → 0 < length ds → (b : ℕ) → is_ascii_digit b ≡ false → Some b ≡ first (ds ++ rest) → ⊥
first_is_digit [] rest h l b out e = omega arith
first_is_digit (c ∷ cs) rest h l b out e =
    let same : b ≡ c = grind arith in
    let p = and_parts (is_ascii_digit c) (all_ascii_digits cs) h in
    false≢true (sym out ∙ rw same p.0)

-- a number of one of the switches
switch_read : (text ds rest : List ℕ) (v : ℕ) (p : Plan) → take (digit_count text) text ≡ ds → drop (digit_count text) text ≡ rest → number_answer ds ≡ Ok v → 1 ≤ v → v ≤ p.switches
    → Read v rest p ≡ read_switch text p
switch_read text ds rest v p front back number low high = rw (front, back, number, le-leb 1 v low, le-leb v p.switches high) refl

pub spelt_read : (f : Formula) (d : ℕ) (rest : List ℕ) (p : Plan) → p.switches ≤ max_number → complete p ≡ false → digit_count rest ≡ 0 → nesting f ≤ d → Over p.switches f → length p.gates + gate_count f ≤ max_gates
    → Read (gates_of p.switches f p.gates).0 rest (grown p f) ≡ read two_input d (spell f ++ rest) p
spelt_read (Switch v) d rest p wide growing stops shallow over few =
    let s = spelling (decimal v) v (omega arith) refl in
    let a : all_ascii_digits (decimal v) ≡ true = tested.from (decimal v) s.digits in
    let k = sym (count_digits (decimal v) rest a stops) in
    switch_read (decimal v ++ rest) (decimal v) rest v p (take_at (decimal v) rest _ k) (drop_at (decimal v) rest _ k) (number_of v (omega arith)) over.0 over.1
    ∙ read_else two_input d (decimal v ++ rest) p (first_is_digit (decimal v) rest a s.some 45 refl) (first_is_digit (decimal v) rest a s.some 40 refl)
spelt_read (Not f) d rest p wide growing stops shallow over few =
    let deeper : d ≡ suc (d - 1) = omega arith in
    let n = p.switches in
    let s = own_signal n f p.gates over in
    let test = signal_test (signals (grown p f)) _ s.0 s.1 in
    let there : are_signals (signals (grown p f)) ((gates_of n f p.gates).0 ∷ []) ≡ true = rw test refl in
    not_read two_input d (d - 1) deeper (45 ∷ (spell f ++ rest)) (spell f ++ rest) p refl refl (gates_of n f p.gates).0 rest (grown p f) _
    (spelt_read f (d - 1) rest p wide growing stops (omega arith) over (omega arith))
    (gate_taken 16 ((gates_of n f p.gates).0 ∷ []) rest (grown p f) growing (omega (arith, gates_length n f p.gates)) (omega arith) refl there)
spelt_read (Join s f g) d rest p wide growing stops shallow over few =
    let deeper : d ≡ suc (d - 1) = omega arith in
    let n = p.switches in
    let p₂ = grown p f in
    let p₄ = grown p₂ g in
    let l : ℕ = (gates_of n f p.gates).0 in
    let r : ℕ = (gates_of n g p₂.gates).0 in
    let right : List ℕ = spell g ++ (41 ∷ rest) in
    let left : List ℕ = spell f ++ (sign_byte s ∷ right) in
    let shape : spell (Join s f g) ++ rest ≡ 40 ∷ left = simp append_assoc in
    let many₂ : length p₂.gates ≡ length p.gates + gate_count f = gates_length n f p.gates in
    let many₄ : length p₄.gates ≡ length p₂.gates + gate_count g = gates_length n g p₂.gates in
    let own_l = own_signal n f p.gates over.0 in
    let own_r = own_signal n g p₂.gates over.1 in
    let there_l = signal_test (signals p₄) l own_l.0 (omega arith) in
    let there_r = signal_test (signals p₄) r own_r.0 own_r.1 in
    let there : are_signals (signals p₄) (l ∷ r ∷ []) ≡ true = rw (there_l, there_r) refl in
    rw shape
    (join_read two_input d (d - 1) deeper (40 ∷ left) left p refl refl l (sign_byte s ∷ right) p₂
    (spelt_read f (d - 1) (sign_byte s ∷ right) p wide growing (sign_no_digit s right) (omega arith) over.0 (omega arith))
    s right refl r (41 ∷ rest) p₄
    (spelt_read g (d - 1) (41 ∷ rest) p₂ wide growing refl (omega arith) over.1 (omega arith))
    rest _ refl
    (gate_taken (operator_code s) (l ∷ r ∷ []) rest p₄ growing (omega arith) (code_low s) (code_arity s) there))
