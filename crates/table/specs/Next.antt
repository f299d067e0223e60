-- Document 02, T-03: what one call leaves for the next.
use Rattle.std.specs.Prelude.{◌≡◌, ◌≢◌, true, List, ℕ, ◌*◌, length, replicate}
use Rattle.pkt.specs.Answers.{refused, gives}
use Rattle.assembly.specs.declared.Key.{Key}
use Rattle.table.specs.declared.Slot.{Slot}
use Rattle.table.specs.declared.After.{After}
use Rattle.assembly.specs.declared.Outcome.{Outcome}
use Rattle.table.specs.Slots.{slots, slot_bytes, slot_map, free_slot, table_fits}
use Rattle.table.specs.Table.{table_take, Tables, Discards, TakesOut}
use Rattle.table.specs.Mixed.{Keyed, keyed_in, assembly_of}

-- 11 is not given
abbrev pub NoEleven : List Slot → List ℕ → List ℕ → Type 0
NoEleven t d m = table_fits t (length d) (length m) ≡ true

-- A table never refuses its own next call by 11: an empty one with buffers of the sizes does not, and no call changes that.
pub record StaysUsable : Type 0 where
  pub empty : (d m : List ℕ) → length d ≡ slot_bytes * slots → length m ≡ slot_map * slots → NoEleven (replicate slots free_slot) d m
  pub taking : (t : List Slot) (d m l : List ℕ) → length t ≡ slots → NoEleven t d m → (r : After Outcome) (d' m' : List ℕ) → Tables (table_take t d m l) t d m r d' m'
      → NoEleven r.table d' m'
  pub discarding : (t : List Slot) (d m : List ℕ) (k : Key) → length t ≡ slots → NoEleven t d m → (r : After (Unit {0})) (d' m' : List ℕ) → Discards t d m k r d' m'
      → NoEleven r.table d' m'
  pub taking_out : (t : List Slot) (d m : List ℕ) (k : Key) (o : List ℕ) → length t ≡ slots → NoEleven t d m → (r : After ℕ) (d' m' o' : List ℕ)
      → TakesOut t d m k o r d' m' o' → NoEleven r.table d' m'

-- ---- "Taking and discarding are not moved past pieces of their own key." Past any other packet they may be, as far as the table is not full.

-- the packet l carries no piece of the key k
abbrev pub Foreign : Key → List ℕ → Type 0
Foreign k l = (x : Keyed) → keyed_in l ≡ gives x → x.key ≢ k

-- the table is not full for it: 19 is not given
abbrev pub HasSlot : List Slot → List ℕ → List ℕ → List ℕ → Type 0
HasSlot t d m l = table_take t d m l ≡ refused 19 → ⊥

-- two tables with the same assembly for each key, "though slots may differ"
abbrev pub Alike : List Slot → List ℕ → List ℕ → List Slot → List ℕ → List ℕ → Type 0
Alike t d m u e n = (k : Key) → assembly_of t d m k ≡ assembly_of u e n k

-- From the table t with the buffers d and m the key k is discarded, and then the packet l is handed in; g and p are what the calls gave.
pub record DiscardFirst (t : List Slot) (d m : List ℕ) (k : Key) (l : List ℕ) (g : After (Unit {0})) (p : After Outcome) (d' m' : List ℕ) : Type 0 where
  pub payloads : List ℕ
  pub maps : List ℕ
  pub discards : Discards t d m k g payloads maps
  pub takes : Tables (table_take g.table payloads maps l) g.table payloads maps p d' m'

-- .. and the other way round
pub record DiscardLast (t : List Slot) (d m : List ℕ) (k : Key) (l : List ℕ) (g : After (Unit {0})) (p : After Outcome) (d' m' : List ℕ) : Type 0 where
  pub payloads : List ℕ
  pub maps : List ℕ
  pub takes : Tables (table_take t d m l) t d m p payloads maps
  pub discards : Discards p.table payloads maps k g d' m'

-- The same with the datagram of k taken out: o is the output before, o' after.
pub record OutFirst (t : List Slot) (d m : List ℕ) (k : Key) (l o : List ℕ) (g : After ℕ) (p : After Outcome) (d' m' o' : List ℕ) : Type 0 where
  pub payloads : List ℕ
  pub maps : List ℕ
  pub takes_out : TakesOut t d m k o g payloads maps o'
  pub takes : Tables (table_take g.table payloads maps l) g.table payloads maps p d' m'

pub record OutLast (t : List Slot) (d m : List ℕ) (k : Key) (l o : List ℕ) (g : After ℕ) (p : After Outcome) (d' m' o' : List ℕ) : Type 0 where
  pub payloads : List ℕ
  pub maps : List ℕ
  pub takes : Tables (table_take t d m l) t d m p payloads maps
  pub takes_out : TakesOut p.table payloads maps k o g d' m' o'

-- Both calls answer alike in both orders, the output is the same, and so is each key's assembly.
pub record Commutes : Type 0 where
  pub discarding : (t : List Slot) (d m : List ℕ) (k : Key) (l : List ℕ) → length t ≡ slots → Foreign k l → HasSlot t d m l
      → (g g' : After (Unit {0})) (p p' : After Outcome) (d₁ m₁ d₂ m₂ : List ℕ) → DiscardFirst t d m k l g p d₁ m₁ → DiscardLast t d m k l g' p' d₂ m₂
      → (g.answer ≡ g'.answer) × (p.answer ≡ p'.answer) × Alike p.table d₁ m₁ g'.table d₂ m₂
  pub taking_out : (t : List Slot) (d m : List ℕ) (k : Key) (l o : List ℕ) → length t ≡ slots → Foreign k l → HasSlot t d m l
      → (g g' : After ℕ) (p p' : After Outcome) (d₁ m₁ o₁ d₂ m₂ o₂ : List ℕ) → OutFirst t d m k l o g p d₁ m₁ o₁ → OutLast t d m k l o g' p' d₂ m₂ o₂
      → (g.answer ≡ g'.answer) × (p.answer ≡ p'.answer) × (o₁ ≡ o₂) × Alike p.table d₁ m₁ g'.table d₂ m₂
