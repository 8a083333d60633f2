-- The index of numbered rows: those of one bucket are linked, the newest first.
use Rattle.std.specs.Prelude.{◌≡◌, ℕ, ◌-◌, ◌/◌, ◌^◌, ◌<◌, ◌≤◌, List, length, slice_index}
use Rattle.rbbi_bits.specs.Hashes.{hash_upon}
use Rattle.rbbi_bits.specs.NumberedRows.{listed_row}

-- the bucket of a row
unfoldable pub bucket_of : List ℕ → ℕ
bucket_of row = hash_upon row / 2 ^ 49

-- For each bucket the number of its newest row is kept, and for each row that of the newest older one in its bucket, each plus
-- one, and 0 where there is none.
pub record IsIndexed (sets : List (List ℕ)) (newest older : List ℕ) : Type 0 where
  pub few : length sets ≤ 16384
  pub many_buckets : length newest ≡ 32768
  pub room : length older ≡ 16384
  pub newest_within : (bucket : ℕ) → bucket < 32768 → slice_index newest bucket ≤ length sets
  pub newest_of : (bucket : ℕ) → bucket < 32768 → 0 < slice_index newest bucket → bucket_of (listed_row sets (slice_index newest bucket - 1)) ≡ bucket
  pub newest_most : (i : ℕ) → i < length sets → i < slice_index newest (bucket_of (listed_row sets i))
  pub older_within : (i : ℕ) → i < length sets → slice_index older i ≤ i
  pub older_of : (i : ℕ) → i < length sets → 0 < slice_index older i → bucket_of (listed_row sets (slice_index older i - 1)) ≡ bucket_of (listed_row sets i)
  pub older_most : (earlier i : ℕ) → earlier < i → i < length sets → bucket_of (listed_row sets earlier) ≡ bucket_of (listed_row sets i) →
      earlier < slice_index older i
