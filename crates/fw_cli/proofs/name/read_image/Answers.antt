use Rattle.fw_cli.proofs.name.read_image.Goals as goal

pub returns-in-Err-Input-clause-reading : goal.returns-in-Err-Input-clause-reading
returns-in-Err-Input-clause-reading g c = rw c.in-Err-Input.field-0-is at c.in-Err-Input.ensures.reading

pub returns-in-Err-TooMuchInput-clause-reading : goal.returns-in-Err-TooMuchInput-clause-reading
returns-in-Err-TooMuchInput-clause-reading g c = rw c.in-Err-TooMuchInput.field-0-is at c.in-Err-TooMuchInput.ensures.reading

pub returns-in-Err-OutOfMemory-clause-reading : goal.returns-in-Err-OutOfMemory-clause-reading
returns-in-Err-OutOfMemory-clause-reading g c = rw c.in-Err-OutOfMemory.field-0-is at c.in-Err-OutOfMemory.ensures.reading
