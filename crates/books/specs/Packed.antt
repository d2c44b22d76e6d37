-- A packed book: the literals of its clauses end to end in one list, and a span for each clause that stands.
use Rattle.std.specs.Prelude.{◌≡◌, ℕ, ◌+◌, ◌-◌, ◌≤◌, List, [], ◌∷◌, ◌++◌, map, length, take, drop, Some, None, Option, slice_index_or}
use Rattle.std.specs.Option.{option_map}
use Rattle.clauses.specs.Limits.{max_literals}
use Rattle.books.specs.declared.spans.Span.{Span}
use Rattle.books.specs.Book.{Book, slot_size}
use Rattle.books.specs.Numbers.{entered}

-- the span of n literals from a place on
abbrev pub span_of : ℕ → ℕ → Span
span_of at n = record { start = at; length = n }

-- the literals that a span covers
abbrev pub covered : List ℕ → Span → List ℕ
covered ls s = take s.length (drop s.start ls)

-- what stands under each number
abbrev pub slots_in : List ℕ → List (Option Span) → List (Option (List ℕ))
slots_in ls ss = map (option_map (covered ls)) ss

-- the book of t numbers and l cells with these literals and spans
abbrev pub packed : List ℕ → List (Option Span) → ℕ → ℕ → Book
packed ls ss t l = entered (covered ls) ss t l

-- the literals of the slots, end to end
abbrev pub end_to_end : List (Option (List ℕ)) → List ℕ
end_to_end [] = []
end_to_end (None ∷ os) = end_to_end os
end_to_end (Some c ∷ os) = c ++ end_to_end os

-- the spans of slots whose literals lie end to end from a place on
abbrev pub spans_from : ℕ → List (Option (List ℕ)) → List (Option Span)
spans_from at [] = []
spans_from at (None ∷ os) = None ∷ spans_from at os
spans_from at (Some c ∷ os) = Some (span_of at (length c)) ∷ spans_from (at + length c) os

-- the literals and the spans of the slots os, end to end
abbrev pub Lays : List ℕ → List (Option Span) → List (Option (List ℕ)) → Type 0
Lays ls ss os = (ls ≡ end_to_end os) × (ss ≡ spans_from 0 os)

-- no slot holds more than a clause may
abbrev pub Short : List (Option (List ℕ)) → Type 0
Short os = (i : ℕ) → slot_size (slice_index_or os i None) ≤ max_literals

-- what always holds: the clauses lie end to end, and none is too long
abbrev pub LaidOut : List ℕ → List (Option Span) → Type 0
LaidOut ls ss = Lays ls ss (slots_in ls ss) × Short (slots_in ls ss)

-- the literals without the n from i on
abbrev pub without : List ℕ → ℕ → ℕ → List ℕ
without ls i n = take i ls ++ drop (i + n) ls

-- the span n places lower
abbrev pub lowered : ℕ → Span → Span
lowered n s = span_of (s.start - n) s.length

-- the spans with none at place i, and those after it n places lower
abbrev pub cleared : List (Option Span) → ℕ → ℕ → List (Option Span)
cleared ss i n = take i ss ++ (None ∷ map (option_map (lowered n)) (drop (i + 1) ss))
