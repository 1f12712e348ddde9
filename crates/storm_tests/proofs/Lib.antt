mod Grounds
