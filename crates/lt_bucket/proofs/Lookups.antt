-- What a look-up answers where the page spells a bucket.
use Rattle.std.proofs.Common.{◌≡◌, ℕ, sym, ap, ◌∙◌, List, [], Option, Some}
use Rattle.std.specs.List.{find}
use Rattle.std.specs.Option.{option_map, option_map_or}
use Rattle.lt_terms.specs.Bytes.{same_bytes}
use Rattle.lt_terms.specs.Items.{Item}
use Rattle.lt_terms.specs.Hashes.{key_suffix}
use Rattle.lt_tables.specs.declared.Sends.{Sends}
use Rattle.lt_tables.specs.Bucket.{Bucket, items_on, look_on, look_in_1, look_of, sent_to, here}
use Rattle.lt_bucket.specs.Reading.{SpellsBucket}

-- it is the item that was found
pub looks_here : (page key : List ℕ) (sends : Option Sends) (items read : List Item) (item : Item) → SpellsBucket page sends items → read ≡ items_on page
    → Some item ≡ find (λ (item : Item). same_bytes item.key key) read → look_on page key ≡ Some (here item)
looks_here page key sends items read item spelled read_is found =
    let all : read ≡ items = read_is ∙ ap (λ o. option_map_or (λ (b : Bucket). b.items) o []) spelled in
    ap (option_map (look_in_1 key)) spelled
    ∙ ap (λ o. Some (look_of o (sent_to sends (key_suffix key)))) (ap (find (λ (item : Item). same_bytes item.key key)) (sym all) ∙ sym found)
