use Rattle.lt_device.proofs.Silent.{wrote_nothing}
use Rattle.device_tests.proofs.devices.SilentDevice.write.Goals as goal

pub returns-clause-wrote : goal.returns-clause-wrote
returns-clause-wrote c = wrote_nothing _ _
