use Rattle.label_reading.proofs.LabelLaw as law
use Rattle.label_reading.proofs.labels_are_read.Goals as goal

pub returns-clause-read : goal.returns-clause-read
returns-clause-read c = law.labels_are_read

pub returns-clause-spelled : goal.returns-clause-spelled
returns-clause-spelled c = law.labels_are_spelled
