-- How pressed the images are that a crash may leave.
use Rattle.std.specs.Prelude.{◌≡◌, Bool, Ok, IsTrue}
use Rattle.lt_terms.specs.Bytes.{Image}
use Rattle.lt_device.specs.Moments.{MayLeave}
use Rattle.lt_device.specs.State as told
use Rattle.lt_format.specs.Snapshot.{Named}
use Rattle.lt_image.specs.Versions.{Opened, open_image}

-- the image opens, and what it names passes this test on it
pub record Passes (test : Named → Image → Bool) (image : Image) : Type 0 where
  pub opened : Opened
  pub opens : open_image image ≡ Ok opened
  pub passes : IsTrue (test opened.named image)

-- each image that a crash may leave passes this test
abbrev pub LeavesAll : (Named → Image → Bool) → told.State → Type 0
LeavesAll test device = (left : Image) → MayLeave device left → Passes test left
