-- How many blocks a search reads.
use Rattle.std.specs.Prelude.{ℕ, ◌+◌, Bool, false, ◌&&◌, List, nat_le, count_by, if◌then◌else◌}
use Rattle.std.specs.Option.{option_map_or}
use Rattle.lt_terms.specs.Bytes.{Image, block_at}
use Rattle.lt_terms.specs.Hashes.{home_column, key_suffix}
use Rattle.lt_tables.specs.Bucket.{sends_on}
use Rattle.lt_tables.specs.declared.Sends.{Sends}
use Rattle.lt_format.specs.declared.geometry.Geometry.{Geometry}
use Rattle.lt_image.specs.Bound.{groups_met, is_sent}
use Rattle.lt_image.specs.Versions.{Stop}

-- the page sends items of the key's suffix
abbrev pub sends_key : List ℕ → List ℕ → Bool
sends_key page key = option_map_or (λ (t : Sends). nat_le t.mark (key_suffix key)) (sends_on page) false

-- how many blocks a look-up of the key reads in the extent that begins here: a second one where the home bucket sends
-- the key's suffix
abbrev pub look_reads : Image → ℕ → List ℕ → ℕ
look_reads image first key = if sends_key (block_at image (first + home_column key)) key then 2 else 1

-- the buckets that are read of these tables: one of each that is asked, and a second one of those whose home bucket
-- sends the key's suffix
abbrev pub bucket_reads : (Stop → Bool) → Geometry → Image → List ℕ → List Stop → ℕ
bucket_reads asks g image key ss = count_by asks ss + count_by (λ s. asks s && is_sent g image key s) ss

-- what is read of these tables: buckets, and one block of each group that they belong to
abbrev pub path_reads : (Stop → Bool) → Geometry → Image → List ℕ → List Stop → ℕ
path_reads asks g image key ss = bucket_reads asks g image key ss + groups_met g.levels ss
