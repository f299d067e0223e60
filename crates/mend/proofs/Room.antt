-- What an accepted call counts lies within what it was lent: there was room for it.
use Rattle.std.proofs.Common.{◌≡◌, ℕ, ◌≤◌, List, length, sym, ap, ◌∙◌, arith}
use Rattle.std.specs.Prelude.{Result, Ok}
use Rattle.pkt.specs.Answers.{list_says}
use Rattle.pkt.specs.declared.refusal.ListRefusal.{ListRefusal}
use Rattle.reading.specs.Ends.{records_answer}
use Rattle.mending.specs.Mend.{changes, Mends}
use Rattle.mending.specs.declared.Counts.{Counts}
use Rattle.mending.proofs.Deciding.{records_then, room_given}

pub counted : (l o : List ℕ) (e : List (List ℕ)) (r : Result Counts ListRefusal) (o' : List ℕ) (e' : List (List ℕ)) (c : Counts) → Mends l o e r o' e' → r ≡ Ok c
    → (c.bytes ≤ length o) × (c.changed ≤ length e)
counted l o e r o' e' c m w =
    let given = (records_then (records_answer l) _ c (sym m.answer ∙ ap list_says w)).1 in
    let room = room_given (length l) (length (changes l)) (length o) (length e) c given in
    let bytes : c.bytes ≡ length l = ap (λ (c : Counts). c.bytes) room.0 in
    let rows : c.changed ≡ length (changes l) = ap (λ (c : Counts). c.changed) room.0 in
    (omega (arith, room.1, bytes), omega (arith, room.2, rows))
