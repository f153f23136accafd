use Rattle.lt_device.proofs.Runs.{confining}
use Rattle.device_tests.proofs.devices.put.Goals as goal

pub returns-in_err-write : goal.returns-in_err-write
returns-in_err-write g c = search confining

pub returns : goal.returns
returns g c = search confining
