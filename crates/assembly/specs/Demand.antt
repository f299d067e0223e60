-- Demand 3 over pieces, for a payload buffer of C bytes and a map of M bytes, from an assembly opened for any key.
use Rattle.std.specs.Prelude.{◌≡◌, ◌↔◌, true, false, ℕ, ◌*◌, ◌≤◌, ◌<◌, length, take, Some}
use mathlib.Core.List.{List, ◌++◌, Memᴰ}
use Rattle.assembly.specs.declared.Key.{Key}
use Rattle.assembly.specs.Piece.{Piece, Contradict, Acceptable, Contradictory, Same}
use Rattle.assembly.specs.Assembly.{opened, run, complete, record_valid, held_bytes}
use Rattle.assembly.specs.Cut.{requested, Part, Covers}

-- each of ps is acceptable
abbrev pub AllAcceptable : ℕ → List Piece → Type 0
AllAcceptable C ps = (p : Piece) → Memᴰ p ps → Acceptable C p

-- every one of ps was built from d, and none asked for past its end
abbrev pub Built : List ℕ → List Piece → Type 0
Built d ps = (p : Piece) → Memᴰ p ps → Part d p

pub record Assembles (C M : ℕ) (k : Key) : Type 0 where
  -- "The same accepted pieces, in any order and with any repeats, end in the same state,
  pub one_end : (ps qs : List Piece) → AllAcceptable C ps → Same ps qs → run (opened k C M) ps ≡ run (opened k C M) qs
  -- spoilt exactly when two of them contradict each other
  pub spoilt_when : (ps : List Piece) → AllAcceptable C ps → ((run (opened k C M) ps).spoilt ≡ true) ↔ Contradictory ps
  -- If all were built from one payload .., none asked for past its end, all are accepted
  pub taken : (d : List ℕ) → length d ≤ C → (ps : List Piece) → Built d ps → AllAcceptable C ps
  -- and the state is never spoilt [at the end or on the way].
  pub never_spoilt : (d : List ℕ) → length d ≤ C → (ps later : List Piece) → Built d (ps ++ later) → (run (opened k C M) ps).spoilt ≡ false
  -- It is complete exactly when at least one was handed in and together they cover the payload,
  pub complete_when : (d : List ℕ) → length d ≤ C → (ps : List Piece) → Built d ps → (complete (run (opened k C M) ps) ≡ true) ↔ ((0 < length ps) × Covers ps (length d))
  -- and it then holds that payload."
  pub held : (d : List ℕ) → length d ≤ C → (ps : List Piece) → Built d ps → complete (run (opened k C M) ps) ≡ true
      → ((run (opened k C M) ps).total ≡ Some (length d)) × (take (length d) (run (opened k C M) ps).payload ≡ d)
  -- [so what is held of the complete datagram is that payload]
  pub held_whole : (d : List ℕ) → length d ≤ C → (ps : List Piece) → Built d ps → complete (run (opened k C M) ps) ≡ true → held_bytes (run (opened k C M) ps) ≡ d
  -- The demands' story: "asked for one piece past the payload's end", which contradicts the last piece of the same payload
  pub past_end : (d : List ℕ) (off len : ℕ) → length d < 8 * off → (p : Piece) → Part d p → p.mf ≡ false → Contradict (requested d off len) p
  -- .. so with both among the accepted pieces, whichever came first, the state is spoilt
  pub past_end_spoils : (d : List ℕ) (off len : ℕ) → length d < 8 * off → (p : Piece) → Part d p → p.mf ≡ false
      → (ps : List Piece) → AllAcceptable C ps → Memᴰ (requested d off len) ps → Memᴰ p ps → (run (opened k C M) ps).spoilt ≡ true
  -- and no state that accepted pieces lead to is refused by 11
  pub stays_valid : (ps : List Piece) → AllAcceptable C ps → record_valid (run (opened k C M) ps) ≡ true
