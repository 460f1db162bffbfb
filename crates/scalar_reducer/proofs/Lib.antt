mod LeftSum
mod ScalarRuns
