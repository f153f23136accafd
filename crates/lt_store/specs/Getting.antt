-- What a get finds, and how many blocks it reads.
use Rattle.std.specs.Prelude.{◌≡◌, ℕ, List, Option, Some, None, Result, Ok, Err, length, take, if◌then◌else◌}
use Rattle.std.specs.Option.{ForSome, is_some}
use Rattle.lt_terms.specs.Bytes.{Image}
use Rattle.lt_terms.specs.Items.{Item}
use Rattle.lt_device.specs.declared.device.Device.{Ghosts}
use Rattle.lt_device.specs.Reads.{CountsAtMost}
use Rattle.lt_tables.specs.Table.{newest_of, value_of}
use Rattle.lt_htable.specs.declared.faults.LookFault.{LookFault}
use Rattle.lt_htable.specs.declared.faults.LookFault.TheVariants.{Device, Damaged}
use Rattle.lt_image.specs.Bound.{read_bound}
use Rattle.lt_image.specs.Versions.{Opened, open_image, stops}
use Rattle.lt_search.specs.Asking.{is_asked, most_reads}
use Rattle.lt_search.specs.Found.{KeepsRest}
use Rattle.lt_search.specs.Seen.{IsFaultOf, before_older, seen_along}
use Rattle.lt_store.specs.Open.{StoreView}

-- the value of a key is so long and stands at the front of the page, or there is none
abbrev pub Finds : List ℕ → Option (List ℕ) → Option ℕ → Type 0
Finds page (Some value) (Some n) = (length value ≡ n) × (take n page ≡ value)
Finds page None None = Unit {0}
Finds page value n = ⊥

-- what a get answers where the key has this value; no block is damaged then
abbrev pub Answers : List ℕ → Option (List ℕ) → Result (Option ℕ) LookFault → Type 0
Answers page value (Ok found) = Finds page value found
Answers page value (Err Device) = Unit {0}
Answers page value (Err (Damaged block)) = ⊥

-- a page stays as it is, but for the value that a get puts to its front
abbrev pub KeepsPage : Result (Option ℕ) LookFault → List ℕ → List ℕ → Type 0
KeepsPage (Ok found) old new = KeepsRest found old new
KeepsPage (Err fault) old new = new ≡ old

-- what a store sees of a key in the tables on its path, with the filters that it keeps
abbrev pub seen_below : StoreView → Image → List ℕ → Result (Option Item) LookFault
seen_below v image key =
    let g = v.named.geometry in
    let trie = v.named.manifest.trie in
    seen_along (is_asked g v.kept image trie key) g image key (stops g.levels trie key)

-- what a store sees of a key: its memory table is newer than the tables
abbrev pub seen_of : StoreView → Image → List ℕ → Result (Option Item) LookFault
seen_of v image key = before_older (Ok (newest_of key v.memory)) (seen_below v image key)

-- what a get answers where it sees a key so: the value of the item, or the block that spells no bucket
abbrev pub AnswersSeen : List ℕ → Result (Option Item) LookFault → Result (Option ℕ) LookFault → Type 0
AnswersSeen page (Ok item) answer = Answers page (value_of item) answer
AnswersSeen page (Err fault) answer = IsFaultOf fault answer

-- how many blocks a get reads at most, whatever the device tells: none where the memory table has the key
abbrev pub most_reads_of : StoreView → List ℕ → ℕ
most_reads_of v key = if is_some (newest_of key v.memory) then 0 else most_reads v.named.geometry.levels v.kept
    v.named.manifest.trie key

-- the count of reads rose by no more than the read bound of the key, on what the device reads as and with these
-- pending items
abbrev pub KeepsBound : {T : Type 0} → Ghosts T → List Item → List ℕ → T → T → Type 0
KeepsBound D pending key old new = ForSome (D.state old).shown (λ image. (o : Opened) → open_image image ≡ Ok o
    → CountsAtMost (read_bound o image pending key) (D.reads old) (D.reads new))
